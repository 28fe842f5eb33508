mod RecordLemmas
mod LatestLemmas
mod CandidateLemmas
pub mod WholeLemmas
