pub mod Disk
pub mod Calls
pub mod Changes
pub mod Images
pub mod Views
pub mod Unsynced
