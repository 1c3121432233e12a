pub mod GatherLaws
pub mod Shown
