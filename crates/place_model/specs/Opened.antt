-- The device of an image that has just been opened: its format, history and counts.
-- Own: the opening leaves the mode. `Changed.antt` has the device where an opening changes it.
use Rattle.std.specs.Prelude.{ℕ, ◌*◌, Bool, not, ◌&&◌, Result, Ok, Err}
use Rattle.disk_model.specs.Disk.{Image}
use Rattle.image_model.specs.Bitmap.{is_dirty, region_awaits}
use Rattle.image_model.specs.Cells.{Cell, placed_cells_of}
use Rattle.image_model.specs.Geometry.{section_entries, region_of, regions}
use Rattle.image_model.specs.Grid.{walk_of}
use Rattle.image_model.specs.declared.scan_fault.ScanFault.{ScanFault}
use Rattle.image_model.specs.declared.journal_plan.State.{State}
use Rattle.image_model.specs.declared.journal_plan.State.TheVariants.{Rest}
use Rattle.image_model.specs.declared.journal_plan.Plan.{Plan}
use Rattle.device_model.specs.Mode.{Mode, Journal, Direct, Recovery, is_bitmap, is_recovery, DeviceFormat}
use Rattle.device_model.specs.Progress.{DeviceState, opened_device}
use Rattle.device_model.specs.Transcript.{BlockFormat}
use Rattle.place_model.specs.Format.{DiskFormat, tagger_of, placed_on, cells_on}

-- ---- the format

-- How many requests may be submitted and not taken.
-- Own: sixteen.
abbrev pub request_slots : ℕ
request_slots = 16

-- The blocks of the device, with their tags.
abbrev pub blocks_of : DiskFormat → BlockFormat
blocks_of d = record {
  blocks = d.geometry.blocks;
  block_size = 512 * d.geometry.shape.spb;
  tag = tagger_of d;
}

-- The format of a device in this mode on this disk: sections and regions are those of the geometry.
abbrev pub device_format : Mode → DiskFormat → DeviceFormat
device_format mode d = record {
  mode = mode;
  blocks = blocks_of d;
  slots = request_slots;
  sections = d.geometry.sections;
  entries = section_entries d.geometry.shape;
  regions = regions d.geometry;
  region_of = region_of d.geometry;
}

-- ---- the history

-- The cells at opening: those of the image, and in recovery mode those that are placed.
abbrev pub base_on : Mode → DiskFormat → Image → ℕ → Cell
base_on Recovery d image = placed_cells_of d.geometry image
base_on mode d image = cells_on d image

-- ---- the counts

-- The section where writing goes on after a recovery: at its start, but where the journal is at rest.
abbrev pub next_by : State → ℕ
next_by (Rest next number) = next
next_by state = 0

-- The same by what the scan of a journal gives.
abbrev pub next_after_walk : Result Plan ScanFault → ℕ
next_after_walk (Ok plan) = next_by plan.state
next_after_walk (Err fault) = 0

-- Where writing goes on in the journal of an image: at its start, but in journal mode by the walk.
abbrev pub next_on : Mode → DiskFormat → Image → ℕ
next_on Journal d image = next_after_walk (walk_of d.geometry image)
next_on mode d image = 0

-- The regions whose bit is set: in bitmap mode those of the image.
abbrev pub set_bits_on : Mode → DiskFormat → Image → ℕ → Bool
set_bits_on mode d image region = is_bitmap mode && is_dirty d.geometry image region

-- The regions that await, but in recovery mode: those that have a block that awaits its tag.
abbrev pub awaiting_on : Mode → DiskFormat → Image → ℕ → Bool
awaiting_on mode d image region = not (is_recovery mode) && region_awaits d.superblock d.geometry image region

-- The device that has just been opened on the image.
abbrev pub opened_on : Mode → DiskFormat → Image → DeviceState
opened_on mode d image =
    opened_device (base_on mode d image) (next_on mode d image)
    (set_bits_on mode d image) (awaiting_on mode d image)

-- The device that has just been opened on its placed cells, in direct mode.
abbrev pub opened_placed : DiskFormat → Image → DeviceState
opened_placed d image =
    opened_device (placed_on d image) (next_on Direct d image)
    (set_bits_on Direct d image) (awaiting_on Direct d image)
