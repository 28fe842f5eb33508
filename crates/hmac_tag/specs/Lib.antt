pub mod Prepared
pub mod Tag
pub mod TagMaker
