pub mod Codes
pub mod Faults
pub mod Numbers
pub mod Tables
