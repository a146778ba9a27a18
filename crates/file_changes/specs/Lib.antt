pub mod Files
pub mod Steps
pub mod Held
pub mod Rewritten
pub mod Causes
pub mod Waiting
