pub mod Workload
pub mod Exercise
pub mod InOrder
