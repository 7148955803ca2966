pub mod Documents
pub mod Loaded
pub mod Indexed
pub mod StoredIndexed
pub mod LoadView
pub mod Targets
pub mod Examples
pub mod steps
