pub mod Starts
pub mod Words
pub mod Triples
pub mod Examples
pub mod Tables
