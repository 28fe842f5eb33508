pub mod Standing
pub mod Running
pub mod Lines
pub mod Calls
