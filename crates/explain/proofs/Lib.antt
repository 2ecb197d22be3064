pub mod Closing
mod Ends
mod Held
mod Copying
mod Messages
pub mod Cuts
pub mod Captures
mod LogLines
mod Printed
mod TwoSpaces
