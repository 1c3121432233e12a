pub mod Write
pub mod Sent
