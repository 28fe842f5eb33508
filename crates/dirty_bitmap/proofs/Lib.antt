pub mod RangeLemmas
pub mod WordLemmas
pub mod SetLemmas
pub mod BitsLemmas
mod ScratchServes
