pub mod ChainLemmas
pub mod FieldLemmas
pub mod GroupLemmas
pub mod LevelLemmas
pub mod OrderLemmas
pub mod ReachedLemmas
pub mod WalkLemmas
