pub mod Sealed
pub mod Sealing
