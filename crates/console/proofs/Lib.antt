pub mod Buffering
pub mod Printing
