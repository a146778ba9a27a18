pub mod Pending
pub mod Kept
pub mod Later
pub mod Laid
