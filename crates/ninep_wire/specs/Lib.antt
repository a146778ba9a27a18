pub mod Header
pub mod TMessage
pub mod RMessage
pub mod Stat
pub mod Plain
pub mod Reading
pub mod Writing
