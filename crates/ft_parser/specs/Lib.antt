pub mod Selections
pub mod Limits
pub mod Answer
pub mod FilterLimit
pub mod Selected
pub mod FilterPlaces
pub mod Prefix
pub mod steps
