pub mod Incoming
pub mod Numbers
