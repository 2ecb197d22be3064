pub mod ClosedPipe
pub mod Fault
pub mod FilterLine
pub mod FilterRuns
pub mod StartFault
pub mod Terminal
