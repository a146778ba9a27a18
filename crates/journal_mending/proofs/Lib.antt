pub mod Orders
pub mod Lengths
pub mod Skips
pub mod Closing
pub mod Looks
pub mod Looked
pub mod Keeping
