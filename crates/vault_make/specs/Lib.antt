pub mod Draws
pub mod Vault
pub mod Errors
pub mod Entries
pub mod Files
pub mod Stages
