pub mod Joins
pub mod Uniting
