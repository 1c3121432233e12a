pub mod Ids
pub mod Numbers
pub mod Slot
pub mod Wrote
