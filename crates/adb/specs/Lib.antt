pub mod Export
pub mod Linked
pub mod Promise
pub mod Stretch
