pub mod Paths
pub mod Rolls
pub mod Trie
pub mod Below
pub mod Faults
pub mod Meanings
