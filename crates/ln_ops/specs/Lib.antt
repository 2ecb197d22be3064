pub mod Fields
pub mod Message
pub mod Reply
pub mod Sensor
pub mod Slot
