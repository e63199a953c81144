pub mod NumberLemmas
pub mod ReadingBack
pub mod LineLemmas
pub mod BreakLemmas
pub mod ReadingLemmas
pub mod TraceBack
pub mod Recorded
pub mod Appending
