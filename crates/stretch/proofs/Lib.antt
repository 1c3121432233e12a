pub mod RunLaws
pub mod SearchLaws
pub mod TellLaws
pub mod TestLaws
pub mod TurnLaws
