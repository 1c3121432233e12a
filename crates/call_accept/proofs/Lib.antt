pub mod AcceptLaws
