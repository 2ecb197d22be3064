pub mod Apps
pub mod Flags
