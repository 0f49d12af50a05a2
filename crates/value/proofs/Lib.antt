pub mod Wholes
pub mod Signs
pub mod Reals
pub mod Readings
