pub mod Workload
pub mod Tally
pub mod Laws
