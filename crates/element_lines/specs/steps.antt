pub mod Counts
pub mod Leading
pub mod Numbers
pub mod Children
pub mod Known
pub mod LineWords
pub mod SpanEnds
