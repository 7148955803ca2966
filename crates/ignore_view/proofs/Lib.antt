pub mod CountedLemmas
pub mod HoleLemmas
pub mod KeptLemmas
pub mod PartLemmas
pub mod StartLemmas
pub mod ViewLemmas
pub mod WalkLemmas
