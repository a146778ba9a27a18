pub mod Plan
pub mod Codes
pub mod Entries
pub mod Steps
pub mod Filing
pub mod Holding
pub mod Cuts
pub mod Texts
