pub mod Dispatch
