pub mod States
pub mod Undone
