pub mod Change
pub mod State
