pub mod Lookups
pub mod Padding
pub mod Commas
