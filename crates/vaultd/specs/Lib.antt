pub mod Tidied
pub mod Starting
pub mod Killed
