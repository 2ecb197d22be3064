pub mod Finding
mod Keys
pub mod Lengths
