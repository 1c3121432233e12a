pub mod MadeLaws
pub mod MakeLaws
