pub mod Details
pub mod Entries
pub mod Format
pub mod Located
pub mod Railways
pub mod Sought
