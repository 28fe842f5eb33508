pub mod PreparedLemmas
pub mod TagLemmas
