pub mod Document
pub mod EditExamples
pub mod Edits
pub mod View
pub mod steps
