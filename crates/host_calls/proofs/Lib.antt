pub mod Volumes
pub mod Steps
pub mod Written
pub mod Stories
pub mod Sound
pub mod Loose
pub mod Parts
pub mod Now
