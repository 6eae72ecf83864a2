pub mod Meanings
pub mod Soundness
