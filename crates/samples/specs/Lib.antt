pub mod Samples
pub mod Table
