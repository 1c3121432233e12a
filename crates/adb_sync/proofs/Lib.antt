pub mod Handed
pub mod HandedV2
pub mod Converted
