pub mod Dump
pub mod DumpLaws
pub mod Lines
