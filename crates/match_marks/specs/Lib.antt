pub mod MarksMeaning
pub mod steps
