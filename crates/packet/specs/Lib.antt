pub mod Rules
pub mod Heads
pub mod Groups
pub mod Cursors
pub mod Messages
pub mod Packets
