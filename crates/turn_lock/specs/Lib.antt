pub mod Limits
pub mod Turns
pub mod SeatView
pub mod Views
pub mod Rule
pub mod Steps
pub mod Seats
