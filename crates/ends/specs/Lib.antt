pub mod Ends
pub mod Credit
