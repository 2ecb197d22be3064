pub mod Lines
pub mod Messages
pub mod Nodes
pub mod Script
pub mod Written
