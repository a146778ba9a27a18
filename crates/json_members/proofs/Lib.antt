pub mod Escaped
pub mod Floats
pub mod Objects
