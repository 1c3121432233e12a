pub mod Differ
pub mod Features
