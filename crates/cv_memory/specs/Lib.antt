pub mod Hearing
pub mod History
pub mod Changes
pub mod Filed
