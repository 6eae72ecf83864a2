pub mod Fields
pub mod Numbers
pub mod Commands
pub mod Lines
