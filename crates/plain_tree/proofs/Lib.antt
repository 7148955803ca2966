pub mod EditingLemmas
pub mod JoiningLemmas
pub mod RangesJoined
pub mod TreesJoined
pub mod Views
