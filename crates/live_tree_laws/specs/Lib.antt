pub mod Holds
pub mod HeldLaws
pub mod Found
pub mod Loading
pub mod Writing
pub mod Contents
pub mod Strays
pub mod StrayLaws
