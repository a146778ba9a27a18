pub mod Tidying
pub mod Starts
pub mod Killed
