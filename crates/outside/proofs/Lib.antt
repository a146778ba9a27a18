pub mod Paths
pub mod Trees
pub mod Moments
pub mod Told
pub mod Steady
pub mod Lists
