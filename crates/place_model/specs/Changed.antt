-- The device of an image that has just been opened in a mode, where the opening may change the image to it: a journal
-- becomes a bitmap of which no bit is set, and a bitmap a journal that is empty.
-- Own: the change is a part of the opening.
use Rattle.std.specs.Prelude.{ℕ, Bool, false, not, bit_and, bit_or, if◌then◌else◌}
use Rattle.std.specs.Int.{w32, bit_not}
use Rattle.disk_model.specs.Disk.{Image}
use Rattle.image_model.specs.declared.flags.TheConstants.{DIRTY_BITMAP, RECALCULATING}
use Rattle.image_model.specs.Geometry.{fitting_log2_region, layout_of}
use Rattle.image_model.specs.Superblock.{Superblock, has_flag, version_for}
use Rattle.device_model.specs.Mode.{Mode, Journal, Bitmap, Direct, Recovery}
use Rattle.device_model.specs.Progress.{DeviceState, opened_device}
use Rattle.place_model.specs.Format.{DiskFormat, cells_on}
use Rattle.place_model.specs.Opened.{opened_on}

-- ---- the fields that a change writes

-- Flags without one.
abbrev pub without_flag : ℕ → ℕ → ℕ
without_flag flag flags = bit_and flags (bit_not w32 flag)

-- Where tags were to be recalculated all are in place: that flag goes, and the position is behind the last block.
abbrev pub recalculated_fields : Superblock → Superblock
recalculated_fields s =
    if has_flag RECALCULATING s.flags
    then record s { flags = without_flag RECALCULATING s.flags; recalc_sector = s.provided }
    else s

-- The fields with the version that is written for their flags.
abbrev pub with_version : Superblock → Superblock
with_version s = record s { version = version_for s.version s.flags }

-- The fields after a change from a journal to a bitmap: the regions are those whose bitmap fits.
abbrev pub bitmap_fields : Superblock → Superblock
bitmap_fields s =
    let r = recalculated_fields s in
    with_version (record r {
      flags = bit_or r.flags DIRTY_BITMAP;
      log2_region = fitting_log2_region (layout_of s);
    })

-- The fields after a change from a bitmap to a journal: the regions stay.
abbrev pub journal_fields : Superblock → Superblock
journal_fields s =
    let r = recalculated_fields s in
    with_version (record r { flags = without_flag DIRTY_BITMAP r.flags })

-- ---- an opening that may change the mode

-- An opening in this mode of an image with these fields changes it: bitmap mode makes a bitmap of a journal, and journal
-- mode and direct mode a journal of a bitmap.
abbrev pub changes_mode : Mode → Superblock → Bool
changes_mode Journal s = has_flag DIRTY_BITMAP s.flags
changes_mode Bitmap s = not (has_flag DIRTY_BITMAP s.flags)
changes_mode Direct s = has_flag DIRTY_BITMAP s.flags
changes_mode Recovery s = false

-- The format with the fields after a change to a bitmap,
abbrev pub bitmap_format : DiskFormat → DiskFormat
bitmap_format d = record d {
  superblock = bitmap_fields d.superblock;
  geometry = record d.geometry { log2_region = (bitmap_fields d.superblock).log2_region };
}

-- and after one to a journal, which leaves all in its place.
abbrev pub journal_format : DiskFormat → DiskFormat
journal_format d = record d { superblock = journal_fields d.superblock }

-- The format after the change that an opening in the mode makes.
abbrev pub changed_format : Mode → DiskFormat → DiskFormat
changed_format Bitmap d = bitmap_format d
changed_format mode d = journal_format d

-- The format of a disk once an image in this one is open in the mode.
abbrev pub opened_format : Mode → DiskFormat → DiskFormat
opened_format mode d = if changes_mode mode d.superblock then changed_format mode d else d

-- The device behind a change: it has the cells of the image at entry, a journal is empty and is written from its start,
-- no bit is set, and no region awaits.
abbrev pub changed_device : DiskFormat → Image → DeviceState
changed_device d image = opened_device (cells_on d image) 0 (λ region. false) (λ region. false)

-- The device that has just been opened on the image in the mode.
abbrev pub opened_in : Mode → DiskFormat → Image → DeviceState
opened_in mode d image = if changes_mode mode d.superblock then changed_device d image else opened_on mode d image

-- The image by which a device is judged that was opened in the mode, of that at entry in this format and the one that the
-- opening made: the one at entry, but where the mode was changed.
abbrev pub judged_image : Mode → DiskFormat → (entry made : Image) → Image
judged_image mode d entry made = if changes_mode mode d.superblock then made else entry
