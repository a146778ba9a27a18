pub mod Drawn
pub mod Smallness
pub mod Slices
pub mod Unread
pub mod Places
pub mod Ordered
pub mod Lines
pub mod Keys
