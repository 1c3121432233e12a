pub mod Said
pub mod AnswerV2
