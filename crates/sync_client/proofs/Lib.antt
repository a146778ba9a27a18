pub mod Links
pub mod Messages
pub mod Fields
pub mod Answers
pub mod Talks
