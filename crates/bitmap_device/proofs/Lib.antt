pub mod OverDisk
pub mod TagLemmas
pub mod EventLemmas
pub mod DoneLemmas
pub mod ServeLemmas
pub mod HeldLemmas
pub mod StepLemmas
pub mod EndLemmas
mod Worked
