pub mod Calls
pub mod Connections
pub mod Silences
pub mod WaitTimes
