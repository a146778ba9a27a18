pub mod Spans
pub mod Pieces
pub mod ReadLemmas
pub mod ReaderLemmas
