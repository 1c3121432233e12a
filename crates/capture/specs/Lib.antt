pub mod Capture
pub mod Converts
