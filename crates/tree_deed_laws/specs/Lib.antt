pub mod Deeds
pub mod Taken
pub mod Trees
pub mod Changes
pub mod Shapes
