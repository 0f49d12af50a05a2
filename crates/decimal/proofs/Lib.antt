mod Gathers
mod Reals
pub mod Readings
mod Sizes
pub mod Backs
mod Plain
pub mod Forms
