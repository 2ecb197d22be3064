pub mod ClientEvents
pub mod Items
pub mod PageText
pub mod Shown
pub mod Updates
pub mod Words
