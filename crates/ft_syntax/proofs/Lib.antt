pub mod Operands
pub mod Pages
pub mod Quotes
pub mod Values
pub mod Views
