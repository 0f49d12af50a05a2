pub mod Answering
pub mod Replies
pub mod Served
pub mod Finding
pub mod Placed
pub mod Ways
pub mod Promised
