pub mod SetLemmas
pub mod AnswerLemmas
pub mod FrontLemmas
