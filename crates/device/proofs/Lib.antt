pub use Rattle.journal_device.proofs.DoneLemmas
pub mod AwaitingLemmas
mod Worked
pub mod EmptiedLemmas
mod ClearTagsLemmas
pub mod ModeLemmas
pub mod MovingLemmas
pub mod JudgedLemmas
mod RestLemmas
pub mod StepLemmas
pub mod TellingLemmas
pub mod RequestLemmas
pub mod OpeningLemmas
pub mod WritesLemmas
pub mod TagsLemmas
pub mod RunLemmas
mod NextWritesLemmas
mod BitmapWritesLemmas
pub mod JournalWritesLemmas
mod EventWritesLemmas
pub mod LeavesLemmas
pub mod CallLemmas
pub mod FinishLemmas
pub mod TurnRunLemmas
