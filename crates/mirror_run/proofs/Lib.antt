pub mod ReadingLemmas
pub mod RunLemmas
pub mod StoppingLemmas
pub mod LoopLemmas
pub mod LineLemmas
pub mod TurnLemmas
