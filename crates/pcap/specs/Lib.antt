pub mod Header
pub mod Record
pub mod File
