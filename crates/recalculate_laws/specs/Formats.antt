-- The format of a disk whose position may have moved since it was opened, and which of its regions may await.
-- Own: nothing of the fields changes but what is to be recalculated.
use Rattle.std.specs.Prelude.{◌≡◌, ℕ, ◌<◌, Bool, true, false, Some}
use Rattle.disk_model.specs.Disk.{Image}
use Rattle.image_model.specs.declared.flags.TheConstants.{DIRTY_BITMAP, RECALCULATING}
use Rattle.image_model.specs.Bitmap.{is_to_recalculate}
use Rattle.image_model.specs.Cells.{salt_of}
use Rattle.image_model.specs.Geometry.{region_of, regions}
use Rattle.image_model.specs.Superblock.{Superblock, has_flag}
use Rattle.device_model.specs.Mode.{Mode, Direct, Journal}
use Rattle.device_model.specs.Regions.{least_region, with_region}
use Rattle.place_model.specs.Format.{DiskFormat, IsReadAs, format_on}
use Rattle.place_model.specs.Opened.{awaiting_on, blocks_of, device_format}
use Rattle.recalculate_laws.specs.Position.{IsSamePosition, MovesPosition, moved_fields}

-- ---- which format

-- The format under other fields.
abbrev pub under_fields : DiskFormat → Superblock → DiskFormat
under_fields d s = record d { superblock = s }

-- The format is the one on which a device was opened, but for what is to be recalculated.
pub record IsFormatOf (on d : DiskFormat) : Type 0 where
  pub key : d.key ≡ on.key
  pub sectors : d.sectors ≡ on.sectors
  pub geometry : d.geometry ≡ on.geometry
  pub salt : salt_of d.superblock ≡ salt_of on.superblock
  pub no_bitmap : has_flag DIRTY_BITMAP d.superblock.flags ≡ false

-- A format without a bitmap is its own,
abbrev pub OwnFormatLaw : Type 0
OwnFormatLaw = (d : DiskFormat) → has_flag DIRTY_BITMAP d.superblock.flags ≡ false → IsFormatOf d d

-- and it stays so where the position moves.
abbrev pub MovedFormatLaw : Type 0
MovedFormatLaw = (on d : DiskFormat) (awaiting : ℕ → Bool) (fields : Superblock) → IsFormatOf on d
    → MovesPosition d.superblock d.geometry d.sectors awaiting fields → IsFormatOf on (under_fields d fields)

-- The device has the same blocks with the same tags then, and the same sections and regions,
abbrev pub SameBlocksLaw : Type 0
SameBlocksLaw = (on d : DiskFormat) → IsFormatOf on d
    → (blocks_of d ≡ blocks_of on) × ((mode : Mode) → device_format mode d ≡ device_format mode on)

-- so it has those of the image that it was opened on, whatever that says of the position.
abbrev pub EntryBlocksLaw : Type 0
EntryBlocksLaw = (on d : DiskFormat) (entry : Image) → IsFormatOf on d → IsReadAs on entry
    → blocks_of d ≡ blocks_of (format_on d.key d.sectors entry)

-- ---- which regions

-- The region has a block that is to be recalculated.
pub record HasWork (d : DiskFormat) (region : ℕ) : Type 0 where
  pub block : ℕ
  pub inside : block < d.geometry.blocks
  pub is : region_of d.geometry block ≡ region
  pub to_recalculate : is_to_recalculate d.superblock d.geometry block ≡ true

-- Each region that awaits has one.
abbrev pub AwaitsWork : DiskFormat → (awaiting : ℕ → Bool) → Type 0
AwaitsWork d awaiting = (region : ℕ) → awaiting region ≡ true → HasWork d region

-- So it is at opening,
abbrev pub WorkOpenedLaw : Type 0
WorkOpenedLaw = (d : DiskFormat) (image : Image) → has_flag DIRTY_BITMAP d.superblock.flags ≡ false
    → AwaitsWork d (awaiting_on Journal d image) × AwaitsWork d (awaiting_on Direct d image)

-- once a region is taken out,
abbrev pub WorkTakenLaw : Type 0
WorkTakenLaw = (d : DiskFormat) (awaiting : ℕ → Bool) (region : ℕ) → AwaitsWork d awaiting
    → AwaitsWork d (with_region region false awaiting)

-- and once the position moves.
abbrev pub WorkMovedLaw : Type 0
WorkMovedLaw = (d : DiskFormat) (awaiting : ℕ → Bool) (fields : Superblock) → AwaitsWork d awaiting
    → MovesPosition d.superblock d.geometry d.sectors awaiting fields → AwaitsWork (under_fields d fields) awaiting

-- Where a region awaits the flag is set,
abbrev pub WorkFlagLaw : Type 0
WorkFlagLaw = (d : DiskFormat) (awaiting : ℕ → Bool) (region : ℕ) → AwaitsWork d awaiting
    → awaiting region ≡ true → has_flag RECALCULATING d.superblock.flags ≡ true

-- and once the least one is taken position or flag changes, in journal mode too: each step writes sector 0.
abbrev pub WorkMovesLaw : Type 0
WorkMovesLaw = (d : DiskFormat) (awaiting : ℕ → Bool) (region : ℕ) → AwaitsWork d awaiting
    → least_region (regions d.geometry) awaiting ≡ Some region
    → ¬ IsSamePosition d.superblock (moved_fields d.superblock d.geometry (with_region region false awaiting))
