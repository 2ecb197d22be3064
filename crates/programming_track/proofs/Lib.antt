pub mod Sequences
pub mod Begins
pub mod Times
pub mod Lasting
pub mod Short
pub mod Few
pub mod Benches
pub mod Reporting
