pub mod Symbols
pub mod Examples
