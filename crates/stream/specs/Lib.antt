pub mod Here
pub mod Stream
