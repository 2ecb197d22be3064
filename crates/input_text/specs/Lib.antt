pub mod Fault
pub mod TrackedReader
pub mod Read
pub mod TrackedWriter
pub mod Write
