pub mod Tasks
pub mod Track
pub mod Time
pub mod Completes
pub mod Outcomes
pub mod Bench
