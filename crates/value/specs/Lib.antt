pub mod Whole
pub mod Values
pub mod Meant
