pub mod Checks
pub mod Forms
pub mod Framing
pub mod Overlaps
pub mod Positions
pub mod Rest
pub mod Wholes
