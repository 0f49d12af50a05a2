pub mod Digits
pub mod Types
pub mod Cuts
