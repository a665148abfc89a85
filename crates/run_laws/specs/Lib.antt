pub mod RestLaws
pub mod RunLaws
