pub mod Journal
pub mod Stages
pub mod Opening
pub mod Commits
pub mod Flushed
