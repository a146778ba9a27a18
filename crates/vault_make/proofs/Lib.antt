pub mod Stages
pub mod Going
pub mod Laying
pub mod Stops
pub mod First
pub mod Made
pub mod Drawing
