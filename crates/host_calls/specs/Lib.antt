pub mod HostPath
pub mod Volume
pub mod Names
pub mod Bytes
pub mod Story
pub mod Calls
pub mod Same
