pub mod ReadingLemmas
pub mod SalvagedLemmas
pub mod RefusingLemmas
mod Worked
