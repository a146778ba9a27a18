pub mod Deeds
pub mod Sealed
pub mod View
pub mod Shown
pub mod Headers
