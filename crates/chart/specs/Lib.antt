pub mod Lines
pub mod Rows
pub mod Troubles
