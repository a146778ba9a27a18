pub mod Envelopes
pub mod Layouts
