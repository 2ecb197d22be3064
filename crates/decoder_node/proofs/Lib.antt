pub mod Concerned
pub mod Decoders
pub mod Drained
pub mod Outputs
pub mod Waves
