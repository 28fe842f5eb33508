pub mod Bad
pub mod Faults
pub mod Report
