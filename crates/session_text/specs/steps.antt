pub mod Blocks
pub mod PeriodReading
pub mod Reached
pub mod SizedReading
