pub mod UnbegunLemmas
pub mod LegLemmas
pub mod OpeningLemmas
pub mod RefusedLemmas
pub mod ClosingLemmas
pub mod RunningLemmas
pub mod ReadLemmas
