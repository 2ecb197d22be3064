pub mod Indexing
pub mod PageTexts
pub mod Sending
