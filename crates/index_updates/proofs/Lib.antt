pub mod ChangeLemmas
pub mod IndexLemmas
pub mod LeavesLemmas
pub mod TextLemmas
pub mod TurnLemmas
pub mod VersionLemmas
pub mod WordsLemmas
