pub mod Words
pub mod Texts
pub mod Held
pub mod Rows
