pub mod AnswerLemmas
pub mod FileLemmas
pub mod QueryLemmas
pub mod ProgressLemmas
pub mod ReadLemmas
pub mod StoppedLemmas
pub mod WrittenLemmas
