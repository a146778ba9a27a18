pub mod Blocks
pub mod Counters
