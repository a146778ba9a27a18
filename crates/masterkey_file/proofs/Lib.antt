pub mod Costs
pub mod Lines
pub mod Members
pub mod ReadsBack
