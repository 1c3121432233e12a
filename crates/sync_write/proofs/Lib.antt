pub mod WriteLaws
pub mod FieldLaws
pub mod RoundTrip
pub mod Arrives
