pub mod Regions
pub mod Bits
pub mod Faults
