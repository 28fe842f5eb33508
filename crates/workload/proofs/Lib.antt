pub mod WorkloadLemmas
pub mod RunnableLemmas
pub mod TallyLemmas
