pub mod Node
pub mod Parsed
pub mod Traffic
pub mod Drawn
pub mod Text
