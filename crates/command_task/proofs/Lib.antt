pub mod PositionLemmas
pub mod ClosedLemmas
pub mod HeadLemmas
pub mod JudgedLemmas
pub mod RunningLemmas
pub mod OutsetLemmas
pub mod UnbegunLemmas
pub mod TextsLemmas
pub mod DeviceLemmas
pub mod EndedLemmas
pub mod WritingLemmas
mod Worked
