pub mod Changed
pub mod EachLine
pub mod Ignoring
pub mod Logging
pub mod Staying
pub mod Taking
pub mod Writing
