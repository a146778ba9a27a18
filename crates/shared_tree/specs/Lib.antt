pub mod Limits
pub mod Turns
pub mod Trees
pub mod Clients
pub mod Workers
pub mod Joined
