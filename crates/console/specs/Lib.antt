pub mod Gather
pub mod Shown
