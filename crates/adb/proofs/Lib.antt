pub mod Begins
pub mod ExportLaws
pub mod StretchLaws
pub mod Theorems
