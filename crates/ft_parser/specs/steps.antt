pub mod State
pub mod Ending
pub mod Parts
pub mod Scan
pub mod Turns
