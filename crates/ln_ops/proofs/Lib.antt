pub mod Gets
pub mod Replies
