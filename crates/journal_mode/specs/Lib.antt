pub use Rattle.replay.specs.DeclaredPlacement
pub use Rattle.replay.specs.Emptied
pub use Rattle.replay.specs.Moves as PlaceWriterMoves
pub use Rattle.replay.specs.Placement
pub use Rattle.replay.specs.Recovery
pub use Rattle.replay.specs.Writes
pub use Rattle.replay.specs.declared.recovered.Recovered
pub mod Journal
pub mod Standing
pub mod Puts
pub mod Reads
pub mod Commits
pub mod Moves
pub mod Freeing
pub mod Closing
pub mod Calls
pub mod Opening
