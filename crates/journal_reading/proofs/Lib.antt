pub mod PlacesLemmas
pub mod JournalLemmas
pub mod CellsLemmas
pub mod UsedLemmas
pub mod EntryLemmas
pub mod JudgingLemmas
pub mod IndexLemmas
mod Worked
