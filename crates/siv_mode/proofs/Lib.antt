pub mod Doubling
pub mod Padding
pub mod Chains
pub mod Counters
pub mod Sealing
pub mod Shapes
