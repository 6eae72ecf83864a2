pub mod Steps
pub mod Writes
pub mod Rooms
pub mod Orders
pub mod Paths
pub mod Listings
pub mod Absent
