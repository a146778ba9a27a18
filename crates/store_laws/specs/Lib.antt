pub mod Store
pub mod Turns
pub mod Ends
pub mod Places
