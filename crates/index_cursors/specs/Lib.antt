pub mod SpanHits
pub mod Examples
