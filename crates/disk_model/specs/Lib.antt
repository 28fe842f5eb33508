pub mod Causes
pub mod Disk
pub mod Identity
pub mod Moments
