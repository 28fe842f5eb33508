mod ToldLemmas
pub mod LinesLemmas
mod RunLemmas
mod Worked
