pub mod NoWriteLemmas
pub mod ReadyLemmas
pub mod DoneLemmas
pub mod ServeLemmas
pub mod EventLemmas
mod Worked
