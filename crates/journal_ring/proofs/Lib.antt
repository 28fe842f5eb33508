pub mod SectionsLemmas
pub mod RunsLemmas
pub mod CutLemmas
pub mod WrapLemmas
pub mod RingLemmas
pub mod BatchLemmas
pub mod CommitLemmas
pub mod PlacesLemmas
pub mod RoomLemmas
mod Worked
