pub mod Shape
pub mod Ids
pub mod Grid
pub mod Tally
pub mod Spread
