pub mod Sizes
pub mod Envelope
pub mod Header
pub mod Chunk
