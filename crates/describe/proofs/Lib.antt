pub mod Choices
pub mod Whole
