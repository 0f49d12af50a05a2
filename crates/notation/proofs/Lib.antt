pub mod Notes
pub mod Backs
pub mod Spaces
pub mod Parts
