pub mod Password
pub mod KeyFile
pub mod Faults
pub mod Steps
pub mod Written
