pub mod Options
pub mod Standing
pub mod Steps
pub mod Beginnings
pub mod Listings
pub mod Runs
pub mod Onwards
