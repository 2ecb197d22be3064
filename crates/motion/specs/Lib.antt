pub mod Legs
pub mod Velocity
