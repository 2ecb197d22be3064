pub mod Parsing
pub mod Turns
pub mod FirstWords
pub mod Whole
