pub mod JudgingLemmas
mod Worked
