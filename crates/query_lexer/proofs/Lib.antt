pub mod Bounds
pub mod FirstLexemes
pub mod Places
pub mod QuotedStrings
pub mod Turns
