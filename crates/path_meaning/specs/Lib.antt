pub mod Elements
pub mod Order
pub mod Meaning
pub mod Collection
pub mod Tests
pub mod Examples
