pub mod DispatchLaws
pub mod KeepLaws
pub mod RouteLaws
