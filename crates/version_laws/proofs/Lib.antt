pub mod Pieces
pub mod Steps
pub mod Histories
pub mod Shapes
