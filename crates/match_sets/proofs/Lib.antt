pub mod AlikeLemmas
pub mod NumberedFilters
pub mod NumberedMatches
pub mod TestedMatches
pub mod UnitedLemmas
pub mod NumberedOperators
