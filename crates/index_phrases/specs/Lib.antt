pub mod Phrases
pub mod Parts
pub mod Tokens
pub mod Cursors
pub mod Examples
pub mod steps
