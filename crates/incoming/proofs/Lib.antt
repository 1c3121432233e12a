pub mod KeptLaws
pub mod Laws
pub mod ListLaws
pub mod QueueLaws
pub mod ShareLaws
