pub mod ChangeLaws
pub mod Fields
pub mod StateLaws
