pub mod Export
pub mod Promise
