pub mod ClosingLemmas
pub mod LoopLemmas
pub mod OpeningLemmas
pub mod ReopeningLemmas
pub mod StoredTagsLemmas
pub mod ServingLemmas
pub mod TakenLemmas
pub mod StoppingLemmas
