pub mod CheckingLemmas
pub mod SalvagingLemmas
pub mod ExercisingLemmas
pub mod MakingLemmas
pub mod ResizingLemmas
pub mod PrintingLemmas
