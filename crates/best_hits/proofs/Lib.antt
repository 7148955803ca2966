pub mod SomeLemmas
pub mod CleanLemmas
pub mod TimesLemmas
pub mod LeastLemmas
pub mod BestLemmas
pub mod LeastAlike
pub mod WayIncludes
pub mod NumberedBest
