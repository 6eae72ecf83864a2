pub mod Kits
pub mod Refusals
pub mod Calls
pub mod Runs
pub mod Laws
