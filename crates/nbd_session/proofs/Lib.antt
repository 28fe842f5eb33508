pub mod UnderWayLemmas
pub mod SettledLemmas
pub mod AskedLemmas
pub mod AskingLemmas
pub mod FitLemmas
pub mod PieceLemmas
pub mod CourseLemmas
pub mod CutLemmas
pub mod StreamLemmas
pub mod CauseLemmas
pub mod CloseLemmas
pub mod EndingLemmas
pub mod ReadLemmas
pub mod DeviceLemmas
mod Worked
