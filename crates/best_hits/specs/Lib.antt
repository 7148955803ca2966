pub mod Best
pub mod Examples
pub mod Least
pub mod Showable
