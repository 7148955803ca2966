pub mod Staying
pub mod Fronts
