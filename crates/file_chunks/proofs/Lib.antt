pub mod Chunks
pub mod Contents
pub mod Envelopes
pub mod KeptLengths
pub mod Layouts
pub mod SliceLemmas
pub mod Spans
