pub mod FormatLemmas
pub mod FormatLawsLemmas
