pub mod Status
pub mod Output
pub mod Run
pub mod Queries
pub mod steps
