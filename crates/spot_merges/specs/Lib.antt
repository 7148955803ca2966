pub mod Edges
pub mod Apart
pub mod Clear
pub mod Outside
pub mod Phrases
pub mod Examples
pub mod steps
