pub mod ServerLine
pub mod Shares
