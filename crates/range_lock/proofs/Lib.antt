pub mod InFlightLemmas
mod Worked
