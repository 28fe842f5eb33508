pub use Rattle.place_writer.specs.Cells
pub use Rattle.place_writer.specs.CommitLaws
pub use Rattle.place_writer.specs.DirectModeCells
pub use Rattle.place_writer.specs.Moves
pub use Rattle.place_writer.specs.Placement
pub use Rattle.place_writer.specs.declared.placement.Placement as DeclaredPlacement
pub mod Calls
pub mod Emptied
pub mod Placing
pub mod ReadPlaces
pub mod Replaying
pub mod Recovery
pub mod Writes
