pub mod Without
pub mod Holes
pub mod Examples
pub mod steps
