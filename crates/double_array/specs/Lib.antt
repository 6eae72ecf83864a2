pub mod Outcomes
pub mod Buffers
pub mod Views
pub mod Entries
pub mod Spellings
