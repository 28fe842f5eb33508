pub mod Exercised
pub mod Tasks
pub mod Listing
