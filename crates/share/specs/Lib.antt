pub mod Rounding
pub mod Totals
pub mod Shares
pub mod Laws
