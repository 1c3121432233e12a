pub mod FrameLaws
pub mod Parts
pub mod FramePieces
pub mod Converts
pub mod WholeFrames
