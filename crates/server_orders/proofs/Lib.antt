pub mod Defaults
pub mod Sharing
pub mod Unmatched
