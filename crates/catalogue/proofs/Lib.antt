pub mod Keeps
pub mod Addresses
pub mod Openings
pub mod Tries
