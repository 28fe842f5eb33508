pub mod Apart
pub mod BestProvided
pub mod Bounds
pub mod FaultLemmas
pub mod GeometryLemmas
pub mod GeometryOf
pub mod Regions
pub mod SectorLemmas
pub mod SuperblockLemmas
mod WorkedImages
mod WorkedSuperblock
pub mod WorkedGeometry
pub mod TagLemmas
mod WorkedTag
pub mod BelowLemmas
pub mod NumberLemmas
pub mod CommitIdLemmas
pub mod WalkLemmas
pub mod TablesLemmas
pub mod ScanLemmas
pub mod GridLemmas
pub mod SectionLemmas
pub mod BitmapLemmas
pub mod CellsLemmas
pub mod OpenableLemmas
mod WorkedCommitId
mod WorkedWalk
mod WorkedSection
mod WorkedBitmap
mod WorkedCells
