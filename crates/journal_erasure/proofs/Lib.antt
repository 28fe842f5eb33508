pub mod PartsLemmas
pub mod StepsLemmas
pub mod FillingLemmas
pub mod EmptyLemmas
pub mod ErasedLemmas
pub mod LawsLemmas
mod Worked
