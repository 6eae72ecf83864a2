pub mod Evidence
pub mod Begins
