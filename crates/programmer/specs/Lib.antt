pub mod Requests
pub mod Replies
pub mod Machine
pub mod Whole
