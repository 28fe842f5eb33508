pub mod Device
pub mod Taking
pub mod Answers
