pub mod Directory
pub mod Groups
pub mod Widening
