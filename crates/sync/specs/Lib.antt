pub mod Message
pub mod Pieces
