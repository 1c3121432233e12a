pub mod Carried
pub mod Called
