pub mod TrainPlace
pub mod Turnouts
pub mod Words
