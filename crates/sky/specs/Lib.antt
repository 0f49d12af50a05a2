pub mod Stars
pub mod Rows
pub mod Names
pub mod Coordinates
pub mod Faults
