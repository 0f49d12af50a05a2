pub mod Digits
pub mod PlainText
pub mod Writes
