pub mod Parts
pub mod Places
pub mod Absent
pub mod Members
pub mod Orders
