pub mod ReadingLemmas
pub mod StreamLemmas
