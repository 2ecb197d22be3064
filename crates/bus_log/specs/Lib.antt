pub mod ChangeLines
pub mod Lines
pub mod Listening
pub mod LogQueues
pub mod Printers
pub mod RailwayLines
pub mod Times
pub mod Verbosities
