pub mod AscendingLemmas
pub mod SpanLemmas
pub mod CursorLemmas
pub mod RangeLemmas
