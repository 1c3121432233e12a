pub mod Export
pub mod Handed
pub mod ExportV2
