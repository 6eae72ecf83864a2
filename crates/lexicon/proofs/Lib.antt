pub mod Numbers
pub mod Spells
pub mod Entries
