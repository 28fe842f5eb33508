pub mod Tagging
pub mod Room
