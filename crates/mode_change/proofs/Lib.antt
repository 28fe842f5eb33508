pub mod FormatLemmas
pub mod StepLemmas
pub mod ChangeLemmas
pub mod JournalStepLemmas
pub mod JournalChangeLemmas
pub mod Worked
