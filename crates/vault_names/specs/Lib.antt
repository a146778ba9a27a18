pub mod Faults
pub mod Sealed
pub mod Folder
pub mod Places
