pub mod MeetsLaws
