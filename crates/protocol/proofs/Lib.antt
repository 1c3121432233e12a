pub mod CommandLaws
pub mod MessageLaws
pub mod PacketLaws
pub mod RoundTrip
