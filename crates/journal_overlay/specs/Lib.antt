pub mod Kept
pub mod Slots
pub mod Nodes
pub mod Index
