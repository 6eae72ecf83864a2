pub mod Decisions
pub mod Ties
pub mod Adds
