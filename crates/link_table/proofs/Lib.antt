pub mod Labels
pub mod Places
pub mod Counts
pub mod Holds
pub mod Tables
