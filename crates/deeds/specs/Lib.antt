pub mod Deeds
pub mod Reshape
pub mod Plain
pub mod Grammar
pub mod Reading
pub mod Writing
pub mod Repeatable
pub mod Applying
