pub mod Examples
pub mod Cvs
pub mod Faults
pub mod Keys
pub mod Names
pub mod Naming
pub mod InTurn
