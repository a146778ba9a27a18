pub mod TurnLists
pub mod Keeps
pub mod Meets
pub mod Opens
pub mod Closes
pub mod SeatLists
