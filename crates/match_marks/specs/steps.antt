pub mod WindowRuns
pub mod ShownRuns
