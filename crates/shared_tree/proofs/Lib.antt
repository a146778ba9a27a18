pub mod Histories
pub mod Asking
pub mod Turning
pub mod Crews
pub mod Joining
