pub mod TextLaws
pub mod WordsLaws
