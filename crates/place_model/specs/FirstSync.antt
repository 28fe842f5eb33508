-- The moments of an opening: what its first sync leaves, of a disk whose candidates are pending, and what stands before it.
-- Own: an opening syncs before it writes.
use Rattle.std.specs.Prelude.{◌≡◌, ◌⊎◌, ℕ}
use Rattle.disk_model.specs.Disk.{Content, IsImage, EachImage, HasNothingPending, last_image, newest_only}
use Rattle.image_model.specs.Cells.{Cell}
use Rattle.place_model.specs.Format.{DiskFormat, placed_on, cells_on, IsReadAs, HasPlaced, OpensAs, HasCells}

-- The content is settled, and its image is one of those at entry: the one that reads gave.
pub record IsSettled (entry c : Content) : Type 0 where
  pub settled : HasNothingPending c
  pub among : EachImage (IsImage entry) c
  pub as_read : EachImage (λ image. (sector : ℕ) → image sector ≡ last_image entry sector) c

-- A moment of an opening: the content is that at entry, or each image can be opened and has the cells at opening.
abbrev pub IsOfOpening : DiskFormat → (ℕ → Cell) → (entry c : Content) → Type 0
IsOfOpening d base entry c = (c ≡ entry) ⊎ EachImage (HasCells d base) c

-- The same of the placed cells: the content is that at entry, or each image can be read and has them.
abbrev pub IsOfPlacedOpening : DiskFormat → (ℕ → Cell) → (entry c : Content) → Type 0
IsOfPlacedOpening d base entry c = (c ≡ entry) ⊎ EachImage (HasPlaced d base) c

-- A sync settles what was pending at entry, and leaves the cells that reads give.
abbrev pub FirstSyncLaw : Type 0
FirstSyncLaw = (d : DiskFormat) (entry : Content) → IsImage entry (last_image entry)
    → OpensAs d (last_image entry) → IsSettled entry (newest_only entry)
    × EachImage (HasCells d (cells_on d (last_image entry))) (newest_only entry)

-- So what a cut of an opening leaves is an image at entry, or one with the cells at opening.
abbrev pub OpeningLeftLaw : Type 0
OpeningLeftLaw = (d : DiskFormat) (base : ℕ → Cell) (entry c : Content) → IsOfOpening d base entry c
    → EachImage (λ image. IsImage entry image ⊎ HasCells d base image) c

-- A sync leaves the placed cells that reads give, too,
abbrev pub PlacedSyncLaw : Type 0
PlacedSyncLaw = (d : DiskFormat) (entry : Content) → IsImage entry (last_image entry)
    → IsReadAs d (last_image entry) → IsSettled entry (newest_only entry)
    × EachImage (HasPlaced d (placed_on d (last_image entry))) (newest_only entry)

-- and what a cut of an opening then leaves is an image at entry, or one with the placed cells at opening.
abbrev pub PlacedOpeningLeftLaw : Type 0
PlacedOpeningLeftLaw = (d : DiskFormat) (base : ℕ → Cell) (entry c : Content)
    → IsOfPlacedOpening d base entry c → EachImage (λ image. IsImage entry image ⊎ HasPlaced d base image) c
