pub mod Answer
pub mod Export
