pub mod Alphabets
pub mod Meanings
pub mod Words
