pub mod Facts
pub mod Parts
pub mod Rows
pub mod Soundness
pub mod Counting
