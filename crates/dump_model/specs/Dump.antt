-- What a dump tells of an image: its format, and the state of its journal or the set bits of its bitmap, or the first
-- fault.
-- Own: the superblock is judged before the geometry, and the geometry before the journal. Of the journal the
-- commit numbers are judged, and no entry.
use Rattle.std.specs.Prelude.{ℕ, if◌then◌else◌, Result, Ok, Err}
use Rattle.std.specs.List.{count_by, range_with_len}
use Rattle.disk_model.specs.Disk.{Image}
use Rattle.image_model.specs.declared.flags.TheConstants.{DIRTY_BITMAP}
use Rattle.image_model.specs.declared.journal_plan.Plan.{Plan}
use Rattle.image_model.specs.declared.scan_fault.ScanFault.{ScanFault}
use Rattle.image_model.specs.Bitmap.{is_dirty}
use Rattle.image_model.specs.Geometry.{Geometry, regions}
use Rattle.image_model.specs.Grid.{walk_of}
use Rattle.image_model.specs.Superblock.{has_flag}
use Rattle.image_refusal.specs.declared.dump_fault.DumpFault.{DumpFault}
use Rattle.image_refusal.specs.declared.dump_fault.DumpFault.TheVariants.{Head, Scan}
use Rattle.image_refusal.specs.declared.open_fault.HeadFault.{HeadFault}
use Rattle.image_format.specs.declared.reading.ImageFormat.{ImageFormat}
use Rattle.image_format.specs.Format.{format_of}
use Rattle.dump_model.specs.declared.shown.Dump.{Dump}
use Rattle.dump_model.specs.declared.shown.DumpJournal.TheVariants.{State, Bitmap}

-- How many regions of an image are dirty.
abbrev pub dirty_count : Geometry → Image → ℕ
dirty_count g image = count_by (is_dirty g image) (range_with_len 0 (regions g))

-- What is shown of an image in this format whose journal has this plan.
abbrev pub dump_by_plan : ImageFormat → Result Plan ScanFault → Result Dump DumpFault
dump_by_plan format (Ok plan) = Ok (record { format = format; journal = State plan.state })
dump_by_plan format (Err fault) = Err (Scan fault)

-- What is shown of an image in this format. Where it has a bitmap it has no journal, and the bits of regions count.
abbrev pub dump_in : ImageFormat → Image → Result Dump DumpFault
dump_in format image =
    if has_flag DIRTY_BITMAP format.fields.flags
    then Ok (record { format = format; journal = Bitmap (dirty_count format.geometry image) })
    else dump_by_plan format (walk_of format.geometry image)

-- What is shown of an image whose format was told, or why it is not.
abbrev pub dump_by : Image → Result ImageFormat HeadFault → Result Dump DumpFault
dump_by image (Ok format) = dump_in format image
dump_by image (Err fault) = Err (Head fault)

-- What is shown of an image of a disk of so many sectors, or why it is not.
abbrev pub dump_of : (sectors : ℕ) → Image → Result Dump DumpFault
dump_of sectors image = dump_by image (format_of sectors image)
