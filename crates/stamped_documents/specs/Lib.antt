pub mod Stamps
pub mod Stamped
pub mod Examples
pub mod steps
