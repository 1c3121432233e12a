pub mod Each
pub mod Frames
pub mod Receipt
pub mod Sends
