pub mod Examples
pub mod Follows
pub mod steps
