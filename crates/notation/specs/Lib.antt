pub mod Lines
pub mod Strings
pub mod Readings
