pub mod Messages
pub mod Replies
pub mod Talk
pub mod Steps
