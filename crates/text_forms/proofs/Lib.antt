pub mod FormsLemmas
pub mod CasesLemmas
