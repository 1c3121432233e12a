pub mod Config
pub mod Negotiated
