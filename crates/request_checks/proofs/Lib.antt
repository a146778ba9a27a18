pub mod Deciding
pub mod Owned
pub mod Rows
pub mod Files
pub mod Early
pub mod Public
