pub mod Blocks
pub mod Rounds
pub mod Words
pub mod BlockMixing
pub mod RoMixing
pub mod Parts
pub mod Costs
