pub mod Chains
pub mod Expansion
pub mod Levels
pub mod Lines
pub mod Links
pub mod Phrases
pub mod steps
