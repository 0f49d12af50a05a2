pub mod Stores
pub mod Made
pub mod Parts
