pub use Rattle.direct_mode.proofs.StoreCalls
pub mod WritingLemmas
pub mod EntryLemmas
pub mod PlacementLemmas
pub mod PlacedOnLemmas
pub mod PlacingLawsLemmas
pub mod Worked
pub mod CommitLawsLemmas
