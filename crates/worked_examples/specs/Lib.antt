pub mod Examples
pub mod Triples
