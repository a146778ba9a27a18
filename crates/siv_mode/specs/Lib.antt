pub mod Cmac
pub mod Absorbed
pub mod Siv
pub mod Counted
