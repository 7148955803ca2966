pub mod View
pub mod Symbols
pub mod OptionSymbols
pub mod Spacing
pub mod Examples
pub mod steps
