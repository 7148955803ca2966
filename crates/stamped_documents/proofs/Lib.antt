pub mod StampLemmas
pub mod DocumentLemmas
