pub mod Fields
pub mod Messages
pub mod Packets
pub mod Pieces
pub mod Rows
pub mod ServicePackets
