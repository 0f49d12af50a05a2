pub mod Digits
pub mod Splits
pub mod Braces
pub mod Results
