pub mod Letters
pub mod Symbols
pub mod Paths
pub mod Alone
pub mod Children
pub mod Led
