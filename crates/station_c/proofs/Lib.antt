pub mod Boxed
pub mod Decoders
pub mod Events
pub mod Fields
pub mod Steps
