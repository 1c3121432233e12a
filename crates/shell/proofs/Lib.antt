pub mod ReadLaws
pub mod Pieces
