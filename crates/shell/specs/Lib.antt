pub mod Kind
pub mod Frame
pub mod Pieces
