pub mod AllLemmas
pub mod CallLemmas
pub mod LineLemmas
pub mod SplitLemmas
pub mod TicketLemmas
pub mod WayLemmas
