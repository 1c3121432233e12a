pub mod Exact
pub mod Never13
pub mod Owner
pub mod Run
pub mod Trace
pub mod Spending
pub mod Stays
