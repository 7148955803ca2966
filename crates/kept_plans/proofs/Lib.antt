pub mod CacheLemmas
pub mod OrderLemmas
pub mod PlanLemmas
