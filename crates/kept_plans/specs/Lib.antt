pub mod Kept
pub mod Examples
pub mod PlanOf
pub mod Preparation
pub mod Codes
pub mod Next
pub mod steps
