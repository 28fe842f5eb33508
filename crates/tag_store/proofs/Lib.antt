pub mod SpansLemmas
pub mod StoreLemmas
pub mod PutLemmas
pub mod StoreLawsLemmas
pub mod CallerLemmas
