pub mod Opening
pub mod Seen
pub mod Decoding
pub mod Lines
pub mod Passwords
pub mod ByKind
pub mod FilesFound
