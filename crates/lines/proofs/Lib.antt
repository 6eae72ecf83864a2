pub mod Listings
pub mod Answers
