pub mod Written
pub mod Firsts
