pub mod Agree
pub mod FeaturesLaws
