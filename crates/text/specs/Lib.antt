pub mod Decimal
pub mod Hex
pub mod HexText
pub mod Lines
pub mod Names
pub mod Sequence
pub mod Words
