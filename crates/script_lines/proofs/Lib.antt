pub mod TakenLemmas
pub mod NewlineLemmas
