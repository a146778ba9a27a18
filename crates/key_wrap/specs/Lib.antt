pub mod Wrap
