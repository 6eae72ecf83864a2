pub mod Members
pub mod Pigeons
pub mod Filters
pub mod Orders
