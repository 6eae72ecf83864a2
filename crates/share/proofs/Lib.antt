pub mod Rounds
pub mod Sums
pub mod Present
pub mod Totals
pub mod Answers
pub mod Laws
