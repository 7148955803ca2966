pub mod Dictionaries
pub mod Documents
pub mod Entries
pub mod EntryExamples
pub mod Examples
pub mod Index
pub mod Postings
