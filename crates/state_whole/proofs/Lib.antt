pub mod CountLaws
pub mod LiveLaws
pub mod ValidLaws
pub mod WholeLaws
