pub mod Wrote
pub mod Texted
pub mod Remembering
