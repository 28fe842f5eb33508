-- What awaits when an image without a bitmap is opened: whether some block does, and all blocks of a new one.
-- Own: consent is asked by the fields alone, before the journal is looked at.
use Rattle.std.specs.Prelude.{◌≡◌, ℕ, ◌<◌, true, false, is_some, None, Ok}
use Rattle.disk_model.specs.Disk.{Image}
use Rattle.image_model.specs.declared.flags.TheConstants.{DIRTY_BITMAP, RECALCULATING}
use Rattle.image_model.specs.Bitmap.{awaits, region_awaits, some_await}
use Rattle.image_model.specs.Cells.{counted_entries, last_entry, placed_cells_of}
use Rattle.image_model.specs.Geometry.{Geometry, IsGeometry, geometry_of, regions}
use Rattle.image_model.specs.Superblock.{IsAccepted, Superblock, has_flag}
use Rattle.device_model.specs.Regions.{least_region}
use Rattle.place_model.specs.Format.{DiskFormat, cells_on, tagger_of}

-- Without a bitmap some region awaits exactly then.
abbrev pub SomeAwaitLaw : Type 0
SomeAwaitLaw = (s : Superblock) (sectors : ℕ) (g : Geometry) (image : Image) → IsAccepted s
    → geometry_of s sectors ≡ Ok g → has_flag DIRTY_BITMAP s.flags ≡ false
    → is_some (least_region (regions g) (region_awaits s g image)) ≡ some_await s

-- Of an image that is to be recalculated from its first sector on each block awaits, and each region, and the tag of a
-- block of which no entry is replayed is that of its bytes.
abbrev pub FromStartLaw : Type 0
FromStartLaw = (d : DiskFormat) (image : Image) → IsGeometry d.geometry d.sectors
    → has_flag DIRTY_BITMAP d.superblock.flags ≡ false → has_flag RECALCULATING d.superblock.flags ≡ true
    → d.superblock.recalc_sector ≡ 0
    → ((b : ℕ) → awaits d.superblock d.geometry image b ≡ true)
    × ((region : ℕ) → region < regions d.geometry → region_awaits d.superblock d.geometry image region ≡ true)
    × ((b : ℕ) → last_entry d.geometry (counted_entries d.superblock d.geometry image) b ≡ None
    → (cells_on d image b).tag ≡ tagger_of d b (placed_cells_of d.geometry image b).bytes)
