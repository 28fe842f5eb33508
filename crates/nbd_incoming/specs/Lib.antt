pub mod Incoming
pub mod Taking
