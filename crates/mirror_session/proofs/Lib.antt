pub mod ChangeLemmas
pub mod JudgingLemmas
pub mod AnswerLemmas
pub mod AskLemmas
pub mod LevelLemmas
pub mod LinesLemmas
