pub mod Places
pub mod Sources
pub mod Spots
pub mod Examples
pub mod steps
