-- What ties the counts of the regions to the disk: its bits, which regions await, and which are fresh.
-- Own: as the counts and as the disk in bitmap mode.
use Rattle.std.specs.Prelude.{◌≡◌, ℕ, ◌<◌, Bool, true, false, Some}
use Rattle.disk_model.specs.Disk.{Image}
use Rattle.image_model.specs.declared.flags.TheConstants.{DIRTY_BITMAP}
use Rattle.image_model.specs.Bitmap.{is_to_recalculate}
use Rattle.image_model.specs.Geometry.{region_of, regions}
use Rattle.image_model.specs.Superblock.{has_flag}
use Rattle.device_model.specs.History.{BlockWrite}
use Rattle.device_model.specs.Mode.{Journal, Bitmap}
use Rattle.device_model.specs.Regions.{RegionCounts, written_region, recalculated_region, written_back, recalculate, clean}
use Rattle.place_model.specs.Format.{DiskFormat}
use Rattle.place_model.specs.Opened.{awaiting_on, opened_on}
use Rattle.bitmap_model.specs.BitmapDisk.{BitmapDisk, needs_bit}
use Rattle.bitmap_model.specs.Opening.{opened_disk}
use Rattle.bitmap_model.specs.Steps.{with_dirty, with_clear, with_write, after_recalculation, after_flush}

-- The counts are those of the disk, of each of its regions.
pub record AreRegions (counts : RegionCounts) (d : BitmapDisk) : Type 0 where
  pub set_bits : (region : ℕ) → region < regions d.geometry → counts.set_bits region ≡ d.bits region
  pub awaiting : (region : ℕ) → region < regions d.geometry → counts.awaiting region ≡ d.awaiting region
  pub fresh : (region : ℕ) → region < regions d.geometry → counts.fresh region ≡ d.fresh region

-- At opening they are those of the image,
abbrev pub RegionsBegin : Type 0
RegionsBegin = (d : DiskFormat) (image : Image) → has_flag DIRTY_BITMAP d.superblock.flags ≡ true
    → AreRegions (opened_on Bitmap d image).progress.regions (opened_disk d image)

-- after a block is written with its bit set those of the disk then,
abbrev pub RegionsWritten : Type 0
RegionsWritten = (counts : RegionCounts) (d : BitmapDisk) (write : BlockWrite) → AreRegions counts d
    → AreRegions (written_region (region_of d.geometry write.block) counts)
    (with_write (with_dirty d (region_of d.geometry write.block)) write)

-- after all is written back and synced,
abbrev pub RegionsFlushed : Type 0
RegionsFlushed = (counts : RegionCounts) (d : BitmapDisk) → AreRegions counts d
    → AreRegions (written_back counts) (after_flush d)

-- and after a region is recalculated: the one that is chosen awaits.
abbrev pub RegionsRecalculated : Type 0
RegionsRecalculated = (counts : RegionCounts) (d : BitmapDisk) (region : ℕ) → AreRegions counts d
    → AreRegions (recalculated_region region counts) (after_recalculation d region)

-- What the choice of a region tells: it is one of the disk, and the counts after the step are those of the disk then.
pub record ChoosesRegion (after : RegionCounts) (d : BitmapDisk) (fits : ℕ → Type 0)
    (step : ℕ → BitmapDisk) : Type 0 where
  pub region : ℕ
  pub inside : region < regions d.geometry
  pub fits_it : fits region
  pub then_is : AreRegions after (step region)

-- The region that is recalculated awaits,
abbrev pub RecalculateLaw : Type 0
RecalculateLaw = (counts after : RegionCounts) (d : BitmapDisk) → AreRegions counts d
    → recalculate (regions d.geometry) counts ≡ Some after
    → ChoosesRegion after d (λ region. d.awaiting region ≡ true) (after_recalculation d)

-- and a bit is cleared of a region that needs none.
abbrev pub CleanLaw : Type 0
CleanLaw = (counts after : RegionCounts) (d : BitmapDisk) (is_used : ℕ → Bool) → AreRegions counts d
    → clean (regions d.geometry) is_used counts ≡ Some after
    → ChoosesRegion after d (λ region. needs_bit d region ≡ false) (with_clear d)

-- Without a bitmap a block whose region does not await at opening has its tag in place.
abbrev pub AwaitingLaw : Type 0
AwaitingLaw = (d : DiskFormat) (image : Image) (b : ℕ) → has_flag DIRTY_BITMAP d.superblock.flags ≡ false
    → b < d.geometry.blocks → awaiting_on Journal d image (region_of d.geometry b) ≡ false
    → is_to_recalculate d.superblock d.geometry b ≡ false
