pub mod Held
pub mod Answers
pub mod First
pub mod Opened
pub mod Ready
pub mod Telling
pub mod Behind
pub mod Holding
