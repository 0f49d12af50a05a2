pub mod Words
pub mod Numerals
pub mod Fields
pub mod Frames
pub mod Parts
