pub mod Untold
pub mod Since
pub mod Stands
pub mod Whole
pub mod Answered
pub mod Closing
pub mod LegLaws
pub mod ImageLaws
