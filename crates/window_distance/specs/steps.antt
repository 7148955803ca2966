pub mod Covering
pub mod Widening
pub mod Sorting
