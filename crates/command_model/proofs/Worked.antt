-- Values of the definitions, computed: what a salvage starts on, and which geometry a device in bitmap mode has, of an
-- image with a journal and of one with a bitmap.
use Rattle.std.proofs.Common.{◌≡◌, ℕ, true, false, refl, None, replicate}
use Rattle.device_model.specs.Mode.{Bitmap, Direct, Journal}
use Rattle.device_model.specs.Refusals.{BySuperblock}
use Rattle.image_model.specs.Geometry.{bitmap_sectors_for, entries_per_sector, entry_size, fitting_log2_region, layout_of, regions_for, section_entries, section_sectors, tag_run_of}
use Rattle.image_model.specs.Superblock.{Superblock, fields_in, superblock_of}
use Rattle.image_model.specs.declared.super_fields.SuperFault.TheVariants.{Magic}
use Rattle.place_model.specs.Kind.{kind_in}
use Rattle.place_model.proofs.WorkedDisk.{fresh_bitmap, fresh_journal, journal_format}
use Rattle.run_model.specs.CommandRun.{RefusedBy}
use Rattle.run_model.specs.Ending.{Refused, ByImage}
use Rattle.command_model.specs.Opening.{geometry_of_device, changes_mode_of, opened_geometry}
use Rattle.command_model.specs.Salvaging.{salvage_outset}

-- ---- what a salvage starts on

-- A salvage of an image without a magic is refused.
salvage_outset-none : salvage_outset None 112 (λ (n : ℕ). replicate 512 0) ≡ RefusedBy (Refused (ByImage (BySuperblock Magic)))
unfolding superblock_of
salvage_outset-none = refl

-- ---- the geometry

-- With 2^20 blocks and regions of one the bitmap would not fit the journal of 88 sectors: behind its making the regions are of
-- four blocks, and all else is as it was.
abbrev large : Superblock
large = record journal_format.superblock { provided = 0x100000; log2_region = 0 }

opened_geometry-raised : opened_geometry Bitmap large (layout_of large) ≡ record (layout_of large) { log2_region = 2 }
unfolding fitting_log2_region bitmap_sectors_for regions_for entry_size entries_per_sector section_entries section_sectors tag_run_of
opened_geometry-raised = refl

-- In journal mode it stays, and so it does where there is a bitmap.
opened_geometry-journal : opened_geometry Journal large (layout_of large) ≡ layout_of large
opened_geometry-journal = refl

opened_geometry-bitmap : opened_geometry Bitmap (record large { flags = 0xc }) (layout_of large) ≡ layout_of large
opened_geometry-bitmap = refl

-- So of these disks a bitmap is made in bitmap mode of the one with a journal alone, and a journal in the two other modes of
-- the one with a bitmap. Regions of 2^15 blocks fit as they are.
changes_mode_of-journal : changes_mode_of (kind_in Bitmap None 112) fresh_journal ≡ true
unfolding fields_in
changes_mode_of-journal = refl

changes_mode_of-bitmap : changes_mode_of (kind_in Bitmap None 112) fresh_bitmap ≡ false
unfolding fields_in
changes_mode_of-bitmap = refl

changes_mode_of-same : changes_mode_of (kind_in Journal None 112) fresh_journal ≡ false
unfolding fields_in
changes_mode_of-same = refl

changes_mode_of-back : changes_mode_of (kind_in Journal None 112) fresh_bitmap ≡ true
unfolding fields_in
changes_mode_of-back = refl

changes_mode_of-direct : changes_mode_of (kind_in Direct None 112) fresh_bitmap ≡ true
unfolding fields_in
changes_mode_of-direct = refl

geometry_of_device-fresh : geometry_of_device (kind_in Bitmap None 112) fresh_journal journal_format.geometry ≡ journal_format.geometry
unfolding fields_in fitting_log2_region bitmap_sectors_for regions_for entry_size entries_per_sector section_entries section_sectors tag_run_of
geometry_of_device-fresh = refl
