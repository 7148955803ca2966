pub mod Fields
pub mod Held
pub mod Shapes
pub mod Told
pub mod Accepted
pub mod Examples
