pub mod Senders
pub mod Lending
pub mod Carrying
pub mod Handling
pub mod Answers
pub mod Views
pub mod Promises
