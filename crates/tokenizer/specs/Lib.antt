pub mod Gaps
pub mod Parts
pub mod Tokens
pub mod steps
