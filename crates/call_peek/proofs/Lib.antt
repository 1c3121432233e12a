pub mod OtherLaws
pub mod PartLaws
pub mod PeekLaws
