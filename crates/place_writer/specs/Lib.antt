pub use Rattle.direct_mode.specs.Cells as DirectModeCells
pub mod Cells
pub mod Placement
pub mod Moves
pub mod PlacingLaws
pub mod CommitLaws
