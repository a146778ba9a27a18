pub mod New
pub mod Claims
pub mod Laws
pub mod Index
pub mod Asked
