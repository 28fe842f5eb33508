pub mod TurnLemmas
pub mod NextLemmas
pub mod LeftLemmas
pub mod ReadyLemmas
pub mod Worked
