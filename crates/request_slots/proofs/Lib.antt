pub mod InFlightLemmas
pub mod ServeEventLemmas
pub mod SlotLemmas
pub mod SlotsLemmas
pub mod SubmitEventLemmas
pub mod SubmitLemmas
pub mod TableLemmas
