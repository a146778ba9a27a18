pub mod Gathered
pub mod Fitting
pub mod Lists
pub mod NameLemmas
pub mod Putting
pub mod Ways
