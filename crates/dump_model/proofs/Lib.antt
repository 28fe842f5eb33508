pub mod DumpLemmas
pub mod DumpLawsLemmas
pub mod LinesLemmas
mod Worked
