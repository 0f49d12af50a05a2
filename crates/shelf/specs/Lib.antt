pub mod Entries
pub mod Places
pub mod Shelves
pub mod Rows
pub mod Sets
