pub mod Nibbles
pub mod Circuit
