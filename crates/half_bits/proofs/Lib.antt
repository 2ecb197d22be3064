pub mod Numbers
pub mod Durations
