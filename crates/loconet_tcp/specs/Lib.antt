pub mod Requests
pub mod Reading
pub mod Text
pub mod ClientLines
