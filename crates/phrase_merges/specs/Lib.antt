pub mod Choices
pub mod Rows
pub mod Near
pub mod NearTrees
pub mod Examples
pub mod steps
