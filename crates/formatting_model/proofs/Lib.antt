pub mod BitsLemmas
pub mod FirstSectorLemmas
pub mod FormattedLemmas
pub mod OrderLemmas
pub mod JournalLemmas
pub mod PlanningLemmas
pub mod RunsLemmas
pub mod TaggingLemmas
pub mod WipingLemmas
pub mod FillingLemmas
pub mod WholeLemmas
mod FormattedLawsLemmas
mod Worked
pub mod StaysLemmas
pub mod WrittenLemmas
