pub mod Examples
pub mod steps
