pub mod Index
pub mod Checked
