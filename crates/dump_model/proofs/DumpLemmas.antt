-- What an image shows, by what was read of it.
use Rattle.std.proofs.Common.{◌≡◌, ℕ, true, false, refl, ap, Result, Ok, Err}
use Rattle.disk_model.specs.Disk.{Image}
use Rattle.image_model.specs.declared.flags.TheConstants.{DIRTY_BITMAP}
use Rattle.image_model.specs.declared.journal_plan.Plan.{Plan}
use Rattle.image_model.specs.declared.scan_fault.ScanFault.{ScanFault}
use Rattle.image_model.specs.Grid.{walk_of}
use Rattle.image_model.specs.Superblock.{has_flag}
use Rattle.image_refusal.specs.declared.dump_fault.DumpFault.TheVariants.{Head}
use Rattle.image_refusal.specs.declared.open_fault.HeadFault.{HeadFault}
use Rattle.image_format.specs.declared.reading.ImageFormat.{ImageFormat}
use Rattle.image_format.specs.Format.{format_of}
use Rattle.dump_model.specs.declared.shown.Dump.{Dump}
use Rattle.dump_model.specs.declared.shown.DumpJournal.TheVariants.{Bitmap}
use Rattle.dump_model.specs.Dump.{dirty_count, dump_by, dump_by_plan, dump_in, dump_of}

-- An image whose first sector is refused is not shown,
pub dump_of-refused : (sectors : ℕ) (image : Image) (cause : HeadFault) → Err cause ≡ format_of sectors image → Err (Head cause) ≡ dump_of sectors image
dump_of-refused sectors image cause told = ap (dump_by image) told

-- and one with a format is shown in that.
pub dump_of-format : (sectors : ℕ) (image : Image) (format : ImageFormat) → Ok format ≡ format_of sectors image → dump_in format image ≡ dump_of sectors image
dump_of-format sectors image format told = ap (dump_by image) told

-- Where an image has no bitmap, its journal is shown by the plan that it has.
pub dump_in-journal : (format : ImageFormat) (image : Image) (plan : Result Plan ScanFault) → has_flag DIRTY_BITMAP format.fields.flags ≡ false → plan ≡ walk_of format.geometry image
    → dump_by_plan format plan ≡ dump_in format image
dump_in-journal format image plan clear same = rw clear (ap (dump_by_plan format) same)

-- Where an image has a bitmap, the count of its dirty regions is shown.
pub dump_in-bitmap : (format : ImageFormat) (image : Image) (set : ℕ) → has_flag DIRTY_BITMAP format.fields.flags ≡ true → set ≡ dirty_count format.geometry image
    → (let dump : Dump = record { format = format; journal = Bitmap set } in Ok dump ≡ dump_in format image)
dump_in-bitmap format image set flag same = rw (flag, same) refl
