pub mod Reports
pub mod Meanings
