pub mod Newest
pub mod Parts
pub mod Erasing
pub mod Erased
pub mod ErasureLaws
pub mod Filling
