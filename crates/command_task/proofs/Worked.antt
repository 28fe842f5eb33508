-- Values of the definitions, computed: what a run and a session start on, of an image with a journal and of one with a
-- bitmap.
use Rattle.std.proofs.Common.{◌≡◌, ◌==◌, true, if◌then◌else◌, refl, None, Some, [], ◌∷◌, replicate}
use Rattle.std.specs.Prelude.{codes}
use Rattle.disk_model.specs.Disk.{Image}
use Rattle.device_model.specs.Refusals.{ByConsent}
use Rattle.run_model.specs.Ending.{Refused, Failed, ByImage, status_of}
use Rattle.device_model.specs.Mode.{Bitmap, Direct, Journal, Recovery}
use Rattle.image_model.specs.Bitmap.{is_bit_set}
use Rattle.image_model.specs.CommitId.{id_in, number_of}
use Rattle.image_model.specs.Geometry.{bitmap_sectors_for, entries_per_sector, entry_size, fitting_log2_region, geometry_of, regions_for, section_entries, section_sectors, sector_at, tag_run_of}
use Rattle.image_model.specs.Grid.{blank_bound, grid_with}
use Rattle.image_model.specs.Openable.{journal_fault_of}
use Rattle.image_model.specs.Scan.{walk_of_grid}
use Rattle.image_model.specs.Section.{entry_at, is_used}
use Rattle.image_model.specs.Superblock.{fields_in, superblock_of}
use Rattle.image_model.specs.Walk.{plan_of}
use Rattle.place_model.specs.Kind.{kind_in}
use Rattle.place_model.proofs.WorkedDisk.{fresh_bitmap, fresh_journal, zeros_journal}
use Rattle.judging_model.specs.declared.consent.Consent.TheVariants.{Withheld}
use Rattle.device.specs.declared.opening.OpenMode.TheVariants as Modes
use Rattle.run_model.specs.CommandRun.{ReadsOn, RefusedBy, RunsOn, Serves}
use Rattle.nbd_command.specs.ServedRun as ends
use Rattle.command_task.specs.declared.asked.Task.TheVariants as Tasks
use Rattle.command_task.specs.declared.telling.Telling.TheVariants.{Lines, Replies}
use Rattle.command_task.specs.Outset.{run_outset, nbd_outset}
use Rattle.command_task.specs.Serving.{most_taken_at, session_ending}
use Rattle.command_task.specs.Telling.{last_text}
use Rattle.run_model.specs.declared.outer.Outer.TheVariants as outers

-- ---- what a run starts on

-- Of a fresh disk with a journal a run in bitmap mode starts on a device,
run_outset-journal : run_outset (Modes.Bitmap Withheld) None 112 fresh_journal ≡ RunsOn (kind_in Bitmap None 112) fresh_journal
unfolding superblock_of fields_in geometry_of sector_at tag_run_of walk_of_grid plan_of grid_with blank_bound bitmap_sectors_for regions_for fitting_log2_region is_used number_of id_in entry_at entry_size entries_per_sector section_entries section_sectors is_bit_set journal_fault_of
run_outset-journal = refl

-- and of one with a bitmap, too, and so does one in journal mode.
run_outset-bitmap : run_outset (Modes.Bitmap Withheld) None 112 fresh_bitmap ≡ RunsOn (kind_in Bitmap None 112) fresh_bitmap
unfolding superblock_of fields_in geometry_of sector_at tag_run_of bitmap_sectors_for regions_for fitting_log2_region entry_size entries_per_sector section_entries section_sectors is_bit_set
run_outset-bitmap = refl

run_outset-bitmap_in_journal : run_outset (Modes.Journal Withheld) None 112 fresh_bitmap ≡ RunsOn (kind_in Journal None 112) fresh_bitmap
unfolding superblock_of fields_in geometry_of sector_at tag_run_of bitmap_sectors_for regions_for fitting_log2_region entry_size entries_per_sector section_entries section_sectors is_bit_set
run_outset-bitmap_in_journal = refl

-- Where tags are to be recalculated under a key, that of an image with a journal asks for consent. The image has 47 blocks of
-- eight sectors on 1024 sectors.
abbrev to_recalculate : Image
to_recalculate sector =
    if sector == 0 then
    0x69 ∷ 0x6e ∷ 0x74 ∷ 0x65 ∷ 0x67 ∷ 0x72 ∷ 0x74 ∷ 0x00 ∷ 0x04 ∷ 0x03 ∷ 0x20 ∷ 0x00 ∷ 0x01 ∷ 0x00 ∷ 0x00 ∷ 0x00
    ∷ 0x78 ∷ 0x01 ∷ 0x00 ∷ 0x00 ∷ 0x00 ∷ 0x00 ∷ 0x00 ∷ 0x00 ∷ 0x0a ∷ 0x00 ∷ 0x00 ∷ 0x00 ∷ 0x03 ∷ 0x00 ∷ 0x00 ∷ 0x00
    ∷ replicate 480 0
    else replicate 512 0

run_outset-withheld : run_outset (Modes.Bitmap Withheld) (Some (0x4a ∷ [])) 1024 to_recalculate ≡ RefusedBy (Refused (ByImage (ByConsent 0xa)))
unfolding superblock_of fields_in geometry_of sector_at tag_run_of bitmap_sectors_for regions_for fitting_log2_region entry_size entries_per_sector section_entries section_sectors is_bit_set
run_outset-withheld = refl

-- A session starts on a device where a run does, and is refused where that is, with the same fault.
nbd_outset-journal : nbd_outset (Modes.Journal Withheld) None 112 fresh_journal ≡ Serves (kind_in Journal None 112) fresh_journal
unfolding superblock_of fields_in geometry_of sector_at tag_run_of walk_of_grid plan_of grid_with blank_bound bitmap_sectors_for regions_for fitting_log2_region is_used number_of id_in entry_at entry_size entries_per_sector section_entries section_sectors is_bit_set journal_fault_of
nbd_outset-journal = refl

nbd_outset-withheld : nbd_outset (Modes.Bitmap Withheld) (Some (0x4a ∷ [])) 1024 to_recalculate ≡ RefusedBy (Refused (ByImage (ByConsent 0xa)))
unfolding superblock_of fields_in geometry_of sector_at tag_run_of bitmap_sectors_for regions_for fitting_log2_region entry_size entries_per_sector section_entries section_sectors is_bit_set
nbd_outset-withheld = refl

-- In recovery mode it starts on a device, whatever the journal says.
run_outset-recovery : run_outset Modes.Recovery None 112 zeros_journal ≡ ReadsOn (kind_in Recovery None 112) zeros_journal
unfolding superblock_of fields_in geometry_of sector_at tag_run_of bitmap_sectors_for regions_for entry_size entries_per_sector section_entries section_sectors
run_outset-recovery = refl

-- ---- what is taken of a source, and what is written last

most_taken_at-values : (most_taken_at (Tasks.Serve (Modes.Direct Withheld)) ≡ 1099511693312) × (most_taken_at (Tasks.Run (Modes.Direct Withheld)) ≡ 16777217)
most_taken_at-values = (refl, refl)

last_text-values : (last_text Lines (Failed outers.Disk) ≡ codes "fault disk\n") × (last_text Replies (Failed outers.Disk) ≡ [])
last_text-values = (refl, refl)

-- A session that ends so has the status of a command that ends so.
session_ending-values : (status_of (session_ending (ends.Complete true)) ≡ 1) × (status_of (session_ending ends.RefusedStream) ≡ 2)
    × (status_of (session_ending ends.SourceFailed) ≡ 5)
session_ending-values = (refl, refl, refl)
