pub mod References
pub mod Says
pub mod Asked
pub mod Prices
pub mod steps
