pub mod Numbers
pub mod Command
pub mod Jobs
pub mod Read
pub mod Texts
