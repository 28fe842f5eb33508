-- Where an image's journal has nothing to replay, its placed cells are its cells, and the kind of device that looks at no
-- journal is direct mode's.
-- Own: without a bitmap the journal alone differs.
use Rattle.std.specs.Prelude.{◌≡◌, ℕ, false, Option, List, []}
use Rattle.disk_model.specs.Disk.{Image}
use Rattle.image_model.specs.declared.flags.TheConstants.{DIRTY_BITMAP}
use Rattle.image_model.specs.Cells.{replayed_entries}
use Rattle.image_model.specs.Geometry.{Geometry, IsGeometry}
use Rattle.image_model.specs.Superblock.{has_flag}
use Rattle.device_model.specs.History.{History}
use Rattle.device_model.specs.Mode.{Direct}
use Rattle.place_model.specs.Format.{DiskFormat, placed_on, cells_on, format_on, IsReadAs, OpensAs}
use Rattle.place_model.specs.Journal.{IsOfJournal, HasNothingToReplay}
use Rattle.place_model.specs.Kind.{CanOpenIn, MayBeLeftIn, CanOpenPlaced, MayBeLeftPlaced}
use Rattle.place_model.specs.Left.{IsLeftInDirect, IsLeftPlaced}
use Rattle.place_model.specs.Opened.{opened_on, opened_placed}

-- The placed cells are the cells,
abbrev pub PlacedCellsLaw : Type 0
PlacedCellsLaw = (d : DiskFormat) (image : Image) (b : ℕ) → has_flag DIRTY_BITMAP d.superblock.flags ≡ false
    → replayed_entries d.geometry image ≡ [] → placed_on d image b ≡ cells_on d image b

-- an image that can be read can be opened,
abbrev pub PlacedOpensLaw : Type 0
PlacedOpensLaw = (d : DiskFormat) (image : Image) → has_flag DIRTY_BITMAP d.superblock.flags ≡ false
    → HasNothingToReplay d.geometry image → IsReadAs d image → OpensAs d image

-- and one that may be left with its placed cells may be left in direct mode.
abbrev pub PlacedLeftLaw : Type 0
PlacedLeftLaw = (d : DiskFormat) (h : History) (image : Image)
    → has_flag DIRTY_BITMAP d.superblock.flags ≡ false → HasNothingToReplay d.geometry image
    → IsLeftPlaced d h image → IsLeftInDirect d h image

-- An image with the same journal has nothing to replay either.
abbrev pub SameJournalLaw : Type 0
SameJournalLaw = (g : Geometry) (sectors : ℕ) (one other : Image) → IsGeometry g sectors
    → ((sector : ℕ) → IsOfJournal g sector → one sector ≡ other sector)
    → HasNothingToReplay g other → HasNothingToReplay g one

-- The image can be opened in direct mode where it can be by superblock and geometry alone, and then in the same state,
abbrev pub SameOpeningLaw : Type 0
SameOpeningLaw = (key : Option (List ℕ)) (sectors : ℕ) (image : Image)
    → HasNothingToReplay (format_on key sectors image).geometry image → CanOpenPlaced key sectors image
    → let d = format_on key sectors image in
    CanOpenIn Direct key sectors image × (opened_placed d image ≡ opened_on Direct d image)

-- and what is left of that kind may be left in direct mode.
abbrev pub SameLeftLaw : Type 0
SameLeftLaw = (key : Option (List ℕ)) (sectors : ℕ) (entry : Image) (h : History) (left : Image)
    → HasNothingToReplay (format_on key sectors left).geometry left → CanOpenPlaced key sectors left
    → MayBeLeftPlaced key sectors entry h left → MayBeLeftIn Direct key sectors entry h left
