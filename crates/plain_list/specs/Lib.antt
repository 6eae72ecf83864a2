pub mod Cuts
pub mod Meanings
pub mod Plain
