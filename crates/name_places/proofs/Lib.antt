pub mod Texts
pub mod Changed
pub mod Lowest
pub mod Indexed
pub mod Listed
pub mod Parts
pub mod Asking
pub mod Identifiers
