pub mod Device
pub mod Answers
