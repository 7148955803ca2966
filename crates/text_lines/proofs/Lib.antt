pub mod LineLemmas
pub mod ContentLemmas
