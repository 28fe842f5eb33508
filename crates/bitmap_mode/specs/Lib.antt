pub mod States
pub mod Staying
pub mod Standing
pub mod Writing
pub mod Reading
pub mod Flushing
pub mod Cleaning
pub mod Closing
