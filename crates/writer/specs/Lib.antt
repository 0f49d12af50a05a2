pub mod Bytes
pub mod Orders
pub mod Written
pub mod Drafts
pub mod Again
