pub mod Command
pub mod Message
pub mod Packet
