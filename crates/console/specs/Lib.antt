pub mod Buffered
pub mod Fault
pub mod Files
pub mod Monitored
pub mod Printed
