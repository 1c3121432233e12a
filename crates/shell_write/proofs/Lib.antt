pub mod WriteLaws
pub mod RoundTrip
pub mod Arrives
