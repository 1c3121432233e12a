pub mod Parts
pub mod Promise
