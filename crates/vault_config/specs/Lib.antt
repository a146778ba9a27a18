pub mod Token
pub mod Config
pub mod Faults
pub mod Algorithms
