pub mod WriteLaws
pub mod ReadLaws
pub mod RoundTrip
pub mod Pieces
