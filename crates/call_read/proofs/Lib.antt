pub mod LookLaws
pub mod ReadLaws
pub mod ReadSteps
