pub mod RestLaws
pub mod WriteLaws
