pub mod Growth
pub mod Patching
pub mod Pieces
pub mod Puttable
pub mod ReadChunks
pub mod SealedRuns
pub mod WrittenChunks
