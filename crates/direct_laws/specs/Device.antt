-- A device in direct mode over its disk: format, history and counts are those of what the disk stands for.
use Rattle.std.specs.Prelude.{◌≡◌, ℕ, ◌<◌, Bool, true, false, List, []}
use Rattle.std.specs.List.{fold}
use Rattle.disk_model.specs.Disk.{Image}
use Rattle.image_model.specs.Bitmap.{is_to_recalculate}
use Rattle.image_model.specs.Cells.{Cell}
use Rattle.image_model.specs.Geometry.{region_of}
use Rattle.image_model.specs.Superblock.{Superblock, has_flag}
use Rattle.image_model.specs.declared.flags.TheConstants.{DIRTY_BITMAP}
use Rattle.device_model.specs.History.{Change, Begun, Written, Flushed}
use Rattle.device_model.specs.Mode.{DeviceFormat, Direct}
use Rattle.device_model.specs.Progress.{DeviceState, opened_device}
use Rattle.device_model.specs.RequestLaws.{IsReached}
use Rattle.place_model.specs.Format.{DiskFormat}
use Rattle.place_model.specs.Opened.{device_format, opened_on, opened_placed}
use Rattle.direct_model.specs.DirectDisk.{DirectDisk}
use Rattle.direct_model.specs.Opening.{placed_disk, opened_disk}
use Rattle.direct_model.specs.Steps.{with_write, after_flush, with_fields, IsMoved, IsHistoryOf}

-- A region may await that has a block to be recalculated.
pub record MayAwait (d : DirectDisk) (region : ℕ) : Type 0 where
  pub block : ℕ
  pub inside : block < d.geometry.blocks
  pub is : region_of d.geometry block ≡ region
  pub to_recalculate : is_to_recalculate d.superblock d.geometry block ≡ true

-- The device is one in direct mode with this disk. Its journal is not used.
pub record IsDirectDevice (f : DeviceFormat) (s : DeviceState) (d : DirectDisk) : Type 0 where
  pub reached : IsReached f s
  pub format : f ≡ device_format Direct d.format
  pub history : IsHistoryOf d s.history
  pub unused : s.progress.journal.sections ≡ []
  pub awaiting : (region : ℕ) → s.progress.regions.awaiting region ≡ true → MayAwait d region

-- The disk after a change of the history: a write is among its writes once it is under way.
abbrev pub after_change : DirectDisk → Change → DirectDisk
after_change d (Begun write) = with_write d write
after_change d (Written write) = d
after_change d Flushed = after_flush d

-- The disk after some changes, the first of them first.
abbrev pub after_changes : List Change → DirectDisk → DirectDisk
after_changes changes d = fold after_change d changes

-- ---- laws

-- A device that has just been opened is one on a disk without a write, with the same cells,
abbrev pub BeginningLaw : Type 0
BeginningLaw = (f : DeviceFormat) (d : DirectDisk) (base : ℕ → Cell) (next : ℕ) (set_bits awaiting : ℕ → Bool)
    → f ≡ device_format Direct d.format → d.writes ≡ [] → d.flushed ≡ 0
    → ((b : ℕ) → b < d.geometry.blocks → d.base b ≡ base b)
    → ((region : ℕ) → awaiting region ≡ true → MayAwait d region)
    → IsDirectDevice f (opened_device base next set_bits awaiting) d

-- so on an image without a bitmap, on its placed cells,
abbrev pub PlacedOpeningLaw : Type 0
PlacedOpeningLaw = (d : DiskFormat) (image : Image) → has_flag DIRTY_BITMAP d.superblock.flags ≡ false
    → IsDirectDevice (device_format Direct d) (opened_placed d image) (placed_disk d image)

-- and on its cells.
abbrev pub OpeningLaw : Type 0
OpeningLaw = (d : DiskFormat) (image : Image) → has_flag DIRTY_BITMAP d.superblock.flags ≡ false
    → IsDirectDevice (device_format Direct d) (opened_on Direct d image) (opened_disk d image)

-- Under these fields each block of a region that awaits is to be recalculated as before.
abbrev pub PassesNone : DirectDisk → (awaiting : ℕ → Bool) → Superblock → Type 0
PassesNone d awaiting fields = (b : ℕ) → b < d.geometry.blocks → awaiting (region_of d.geometry b) ≡ true
    → is_to_recalculate fields d.geometry b ≡ is_to_recalculate d.superblock d.geometry b

-- It is one under such fields too.
abbrev pub MovedDeviceLaw : Type 0
MovedDeviceLaw = (f : DeviceFormat) (s : DeviceState) (d : DirectDisk) (fields : Superblock)
    → IsDirectDevice f s d → IsMoved d fields → PassesNone d s.progress.regions.awaiting fields
    → IsDirectDevice f s (with_fields d fields)
