pub mod Choices
pub mod Rows
pub mod Words
pub mod Examples
pub mod steps
