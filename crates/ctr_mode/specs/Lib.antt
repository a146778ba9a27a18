pub mod Counter
pub mod Counted
