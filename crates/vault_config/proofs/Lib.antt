pub mod Keys
pub mod Parts
pub mod Ranges
pub mod Reading
pub mod ReadsBack
pub mod Symbols
