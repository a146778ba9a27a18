pub mod Cells
pub mod Parts
pub mod Patches
pub mod Putting
pub mod Resizing
pub mod Sizes
pub mod Splices
pub mod Writing
