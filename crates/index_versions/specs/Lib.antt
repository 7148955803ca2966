pub mod FirstPlaces
pub mod Examples
pub mod Versions
pub mod Terms
pub mod steps
