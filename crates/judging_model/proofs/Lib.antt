pub mod FaultsLemmas
pub mod FaultLawsLemmas
mod Worked
