pub mod PairLemmas
pub mod CoverLemmas
pub mod JoinLemmas
pub mod OrderLemmas
pub mod NeighbourLemmas
