pub mod CachedLemmas
pub mod HeldLemmas
pub mod StepsLemmas
pub mod WriteBackLemmas
