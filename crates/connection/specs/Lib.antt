pub mod Act
pub mod Answer
pub mod Calls
pub mod Frames
