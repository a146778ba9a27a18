pub mod Digits
pub mod OneKind
pub mod Refusals
pub mod OneThing
