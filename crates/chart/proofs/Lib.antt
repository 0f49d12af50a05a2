pub mod Newlines
pub mod Places
pub mod Charting
