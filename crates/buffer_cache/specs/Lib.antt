pub mod Cache
pub mod Cached
pub mod HeldSectors
pub mod Steps
