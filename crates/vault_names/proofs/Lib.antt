pub mod ByteLemmas
pub mod NameLemmas
pub mod Opening
pub mod NumberLemmas
pub mod PartLemmas
