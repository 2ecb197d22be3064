mod Cutting
mod Receiving
mod Upgrading
mod Pieces
mod Determined
mod Sending
mod Wholes
pub mod Naming
