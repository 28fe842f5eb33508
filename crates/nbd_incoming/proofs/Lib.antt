pub mod BeginLemmas
pub mod ReadLemmas
pub mod StepLemmas
pub mod TakeLemmas
mod Worked
