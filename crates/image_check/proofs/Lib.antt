pub mod ReadingLemmas
pub mod CheckedLemmas
