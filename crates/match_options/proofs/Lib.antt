pub mod Reading
pub mod GrammarLemmas
pub mod PartLemmas
pub mod WildLemmas
pub mod CoverLemmas
pub mod RowLemmas
