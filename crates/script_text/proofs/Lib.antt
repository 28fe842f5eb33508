pub mod ValueLemmas
pub mod WordsLemmas
pub mod FaultLemmas
pub mod RunLemmas
pub mod RunsLemmas
pub mod SinglesLemmas
pub mod LaneLemmas
pub mod ReadLemmas
pub mod TextLemmas
pub mod DecideLemmas
pub mod FitLemmas
pub mod TotalLemmas
pub mod AskLineLemmas
pub mod QuietLemmas
mod Worked
