-- An image whose journal has nothing left to place: each block is what stands in its place, and the journal is at rest.
-- And what of an image is kept besides its cells.
-- Own: a resize recovers an image without a bitmap, and does no more to what is old.
use Rattle.std.specs.Prelude.{◌≡◌, ℕ, ◌<◌, true, false}
use Rattle.disk_model.specs.Disk.{Image}
use Rattle.image_model.specs.declared.flags.TheConstants.{DIRTY_BITMAP}
use Rattle.image_model.specs.Bitmap.{awaits}
use Rattle.image_model.specs.Cells.{Cell, placed_cells_of}
use Rattle.image_model.specs.Geometry.{Geometry, section_sectors}
use Rattle.image_model.specs.Superblock.{has_flag}
use Rattle.image_model.specs.Tables.{IsAtRest}
use Rattle.place_model.specs.Format.{DiskFormat, HasPlaced}
use Rattle.place_model.specs.Journal.{IsOfJournal, numbers_on}

-- Its journal is at rest, so that no sector of it is blank.
pub record IsResting (g : Geometry) (image : Image) : Type 0 where
  pub next : ℕ
  pub number : ℕ
  pub at : IsAtRest g.sections (section_sectors g.shape) next number (numbers_on g image)

-- So it is, and these are its placed cells.
pub record IsAllPlaced (d : DiskFormat) (cells : ℕ → Cell) (image : Image) : Type 0 where
  pub placed : HasPlaced d cells image
  pub rests : IsResting d.geometry image

-- What is kept of an image besides its cells: a journal at rest, with its entries; and with a bitmap the stored tag of
-- each block that awaits its tag, since nothing is recalculated. Without one the cell of a block that awaits has the
-- tag of its bytes, and a recovery says nothing of the stored one.
pub record KeepsStored (d : DiskFormat) (entry image : Image) : Type 0 where
  pub rest : has_flag DIRTY_BITMAP d.superblock.flags ≡ false → IsResting d.geometry entry
      → (sector : ℕ) → IsOfJournal d.geometry sector → image sector ≡ entry sector
  pub awaiting : has_flag DIRTY_BITMAP d.superblock.flags ≡ true
      → (b : ℕ) → b < d.geometry.blocks → awaits d.superblock d.geometry entry b ≡ true
      → (placed_cells_of d.geometry image b).tag ≡ (placed_cells_of d.geometry entry b).tag
