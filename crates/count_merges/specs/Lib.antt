pub mod Groups
pub mod Examples
pub mod steps
