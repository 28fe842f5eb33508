pub mod Refusing
pub mod Mirrored
pub mod Calls
