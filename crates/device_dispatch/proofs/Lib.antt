pub mod DispatchLaws
