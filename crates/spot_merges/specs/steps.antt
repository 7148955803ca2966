pub mod Covering
pub mod Clearing
