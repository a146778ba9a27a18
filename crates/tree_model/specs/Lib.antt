pub mod Wire
pub mod Names
pub mod Rows
pub mod Contents
pub mod Asked
pub mod Step
pub mod History
pub mod Laws
