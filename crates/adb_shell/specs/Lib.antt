pub mod Export
pub mod Seen
