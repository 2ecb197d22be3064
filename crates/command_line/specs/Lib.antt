pub mod Arguments
pub mod CommandLine
pub mod Fault
pub mod Opening
pub mod Requests
pub mod Values
