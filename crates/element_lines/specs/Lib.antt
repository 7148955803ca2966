pub mod Examples
pub mod Lines
pub mod LocationSteps
pub mod Marked
pub mod steps
