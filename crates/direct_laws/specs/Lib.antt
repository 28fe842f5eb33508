pub use Rattle.journal_laws.specs.EventLaws as JournalLawsEventLaws
pub mod Device
pub mod EventLaws
pub mod ReadLaws
pub mod Within
pub mod PlacedLaws
pub mod PromiseLaws
pub mod CallLaws
pub mod MomentLaws
pub mod ServeLaws
