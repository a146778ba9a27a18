pub mod Addresses
pub mod Behind
pub mod Secrets
pub mod Untold
