pub mod Entries
pub mod Meanings
