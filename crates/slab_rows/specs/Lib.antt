pub mod Searches
pub mod Rows
pub mod Places
