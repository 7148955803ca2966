pub mod KeyLemmas
pub mod KeysOfStem
pub mod StemLemmas
pub mod WordLemmas
