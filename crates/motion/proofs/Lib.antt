pub mod Legs
pub mod Reaching
pub mod Steps
pub mod Ramps
