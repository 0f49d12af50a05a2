pub mod Drafts
pub mod Clean
pub mod Backs
pub mod Goods
pub mod Allowed
pub mod Respelling
