pub mod Code
pub mod Examples
pub mod Rewriting
