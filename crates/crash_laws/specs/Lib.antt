pub mod Crash
pub mod Stands
pub mod Prefix
pub mod Opening
pub mod Stable
pub mod Laws
