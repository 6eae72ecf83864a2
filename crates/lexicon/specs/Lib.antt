pub mod Rolls
pub mod Answers
pub mod Growths
