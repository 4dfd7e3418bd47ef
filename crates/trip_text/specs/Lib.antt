pub mod Scan
pub mod Heard
pub mod Parts
