pub mod Lengths
pub mod Mending
pub mod Looks
pub mod Kept
