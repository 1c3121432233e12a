pub mod Answer
pub mod Device
pub mod Promise
