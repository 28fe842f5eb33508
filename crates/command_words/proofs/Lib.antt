pub mod InterleaveLemmas
pub mod HelpLemmas
pub mod FoldLemmas
pub mod NumberLemmas
pub mod ReadingLemmas
pub mod PlainFacts
pub mod PlainWalk
pub mod PlainRows
pub mod PlainLemmas
mod Worked
