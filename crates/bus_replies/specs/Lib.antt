pub mod Plays
pub mod Ready
pub mod Replies
