pub mod Gather
pub mod Reading
pub mod Spelling
pub mod Normal
pub mod Range
pub mod Views
