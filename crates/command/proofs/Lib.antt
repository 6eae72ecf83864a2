pub mod Cuts
pub mod Readings
pub mod Lines
pub mod Texts
pub mod Belong
