pub mod Searching
pub mod Spotting
