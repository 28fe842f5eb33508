-- What whole images show, and their lines, by computing.
use Rattle.std.proofs.Common.{◌≡◌, ℕ, ◌-◌, ◌+◌, ◌==◌, nat_lt, ◌&&◌, ◌||◌, if◌then◌else◌, refl, Ok, Err, List, ◌∷◌, ◌++◌, replicate, codes}
use Rattle.std.specs.List.{repeat}
use Rattle.std.specs.Fmt.{digits}
use Rattle.hex.specs.Hex.{encode_with}
use Rattle.disk_model.specs.Disk.{Image}
use Rattle.image_model.specs.Bitmap.{is_bit_set}
use Rattle.image_model.specs.CommitId.{commit_id, number_of, id_in}
use Rattle.image_model.specs.Geometry.{geometry_of, layout_of, entry_size, entries_per_sector, section_entries, section_sectors, regions_for, bitmap_sectors_for, fitting_log2_region, tag_run_of, sector_at}
use Rattle.image_model.specs.Grid.{grid_with, blank_bound}
use Rattle.image_model.specs.Scan.{walk_of_grid}
use Rattle.image_model.specs.Section.{is_used}
use Rattle.image_model.specs.Sectors.{bytes_of}
use Rattle.image_model.specs.Superblock.{Superblock, superblock_of, fields_in}
use Rattle.image_model.specs.Walk.{plan_of}
use Rattle.image_model.specs.declared.geom_fault.GeomFault.TheVariants.{TooSmall}
use Rattle.image_model.specs.declared.journal_plan.State.TheVariants.{Rest, Mixed, Erasing, Blank}
use Rattle.image_model.specs.declared.scan_fault.ScanFault.TheVariants.{NoNumber}
use Rattle.image_model.specs.declared.super_fields.SuperFault.TheVariants.{Magic}
use Rattle.image_refusal.specs.declared.dump_fault.DumpFault.TheVariants.{Head, Scan}
use Rattle.image_refusal.specs.declared.open_fault.HeadFault.TheVariants.{Super, Geom}
use Rattle.dump_model.specs.declared.shown.Dump.{Dump}
use Rattle.dump_model.specs.declared.shown.DumpJournal.TheVariants.{State, Bitmap}
use Rattle.dump_model.specs.Dump.{dump_of}
use Rattle.dump_model.specs.Lines.{dump_lines, joined_lines, state_text}

-- ---- images

-- The small image: a disk of 256 sectors, formatted with interleave 8 and one section.
abbrev small : Superblock
small = record {
  version = 4;
  log2_interleave = 3;
  tag_size = 32;
  sections = 1;
  provided = 80;
  flags = 0x8;
  log2_spb = 0;
  log2_region = 15;
  recalc_sector = 0;
  salt = replicate 16 0;
}

-- Its first sector with these flags and this log2_region, as `integritysetup format --integrity-legacy-hmac` writes it.
abbrev first_sector : ℕ → ℕ → List ℕ
first_sector flags log2_region =
    0x69 ∷ 0x6e ∷ 0x74 ∷ 0x65 ∷ 0x67 ∷ 0x72 ∷ 0x74 ∷ 0 ∷ 0x04 ∷ 0x03 ∷ 0x20 ∷ 0 ∷ 0x01 ∷ 0 ∷ 0 ∷ 0
    ∷ 0x50 ∷ 0 ∷ 0 ∷ 0 ∷ 0 ∷ 0 ∷ 0 ∷ 0 ∷ flags ∷ 0 ∷ 0 ∷ 0 ∷ 0 ∷ log2_region ∷ 0 ∷ 0 ∷ replicate 480 0

-- An unused entry as it is written.
abbrev unused : List ℕ
unused = replicate 4 0 ++ replicate 4 0xff ++ replicate 40 0

-- The journal's sector k, empty of a number.
abbrev journal_sector : ℕ → ℕ → List ℕ
journal_sector number k =
    (if nat_lt k 8 then repeat 10 unused ++ replicate 24 0 else replicate 504 0)
    ++ bytes_of (commit_id 0 k number) 8

-- The image with these flags and zeros in all blocks, whose journal has `number` on its sectors below `end`,
-- and 0 on the others.
abbrev image_with : ℕ → ℕ → ℕ → Image
image_with flags number end sector =
    if sector == 0 then first_sector flags 0x0f else
    if nat_lt sector 8 || nat_lt 95 sector then replicate 512 0 else
    journal_sector (if nat_lt (sector - 8) end then number else 0) (sector - 8)

-- The same with zeros in the place of the journal.
abbrev image_without : ℕ → Image
image_without flags sector = if sector == 0 then first_sector flags 0x0f else replicate 512 0

-- The image of commit number `number` with zeros in the place of the journal's first sectors, so many.
abbrev image_zeroed : (number count : ℕ) → Image
image_zeroed number count sector =
    if nat_lt 7 sector && nat_lt sector (8 + count) then replicate 512 0 else image_with 0x8 number 88 sector

-- The same with entries in sector 15 whose sectors' numbers are 0.
abbrev image_used : (number count : ℕ) → Image
image_used number count sector =
    if sector == 15 then replicate 504 0 ++ bytes_of (commit_id 0 7 number) 8 else image_zeroed number count sector

-- The same with a bitmap of this log2_region, whose first sector is this.
abbrev image_with_bitmap : ℕ → List ℕ → Image
image_with_bitmap log2_region bits sector =
    if sector == 0 then first_sector 0xc log2_region else if sector == 8 then bits else replicate 512 0

-- ---- what they show

abbrev small_dump : Dump
small_dump = record {
  format = record { fields = small; geometry = layout_of small };
  journal = State (Rest 0 1);
}

dump_of-small : dump_of 256 (image_with 0x8 0 0) ≡ Ok small_dump
unfolding superblock_of fields_in geometry_of sector_at tag_run_of walk_of_grid plan_of grid_with blank_bound bitmap_sectors_for regions_for fitting_log2_region is_used number_of id_in entry_size entries_per_sector section_entries section_sectors
dump_of-small = refl

-- Its first commit was cut after 40 sectors.
dump_of-cut : dump_of 256 (image_with 0x8 1 40) ≡ Ok (record small_dump { journal = State (Mixed 1) })
unfolding superblock_of fields_in geometry_of sector_at tag_run_of walk_of_grid plan_of grid_with blank_bound bitmap_sectors_for regions_for fitting_log2_region is_used number_of id_in entry_size entries_per_sector section_entries section_sectors
dump_of-cut = refl

-- The journal was emptied to the number 3, and the first three of a bitmap's 8 sectors are zero; and the first two are zero in a
-- new image. What stands in zero sectors is no entry.
dump_of-blank : (dump_of 256 (image_zeroed 3 3) ≡ Ok (record small_dump { journal = State (Blank 3) }))
    × (dump_of 256 (image_zeroed 0 2) ≡ Ok (record small_dump { journal = State (Blank 0) }))
unfolding superblock_of fields_in geometry_of sector_at tag_run_of walk_of_grid plan_of grid_with blank_bound bitmap_sectors_for regions_for fitting_log2_region is_used number_of id_in entry_size entries_per_sector section_entries section_sectors
dump_of-blank = (refl, refl)

abbrev bitmap_dump : (log2_region set : ℕ) → Dump
bitmap_dump log2_region set =
    let fields : Superblock = record small { flags = 0xc; log2_region = log2_region } in
    record { format = record { fields = fields; geometry = layout_of fields }; journal = Bitmap set }

-- With a bitmap of which no bit is set,
dump_of-bitmap : dump_of 256 (image_without 0xc) ≡ Ok (bitmap_dump 15 0)
unfolding superblock_of fields_in geometry_of sector_at tag_run_of bitmap_sectors_for regions_for is_bit_set entry_size entries_per_sector section_entries section_sectors
dump_of-bitmap = refl

-- and one of 80 regions, whose bits 3, 8 and 79 are set, and all behind them too, which are of no region.
dump_of-dirty : dump_of 256 (image_with_bitmap 0 (0x08 ∷ 0x01 ∷ replicate 7 0 ++ 0x80 ∷ replicate 502 0xff)) ≡ Ok (bitmap_dump 0 3)
unfolding superblock_of fields_in geometry_of sector_at tag_run_of bitmap_sectors_for regions_for is_bit_set entry_size entries_per_sector section_entries section_sectors
dump_of-dirty = refl

-- ---- why they are not shown

dump_of-zeros : (dump_of 256 (λ sector. replicate 512 0) ≡ Err (Head (Super Magic)))
    × (dump_of 0 (image_with 0x8 0 0) ≡ Err (Head (Super Magic)))
unfolding superblock_of fields_in
dump_of-zeros = (refl, refl)

dump_of-too_small : dump_of 255 (image_with 0x8 0 0) ≡ Err (Head (Geom (TooSmall 255 256)))
unfolding superblock_of fields_in geometry_of sector_at tag_run_of entry_size entries_per_sector section_entries section_sectors
dump_of-too_small = refl

dump_of-no_number : dump_of 256 (image_without 0x8) ≡ Err (Scan (NoNumber 0 0 0))
unfolding superblock_of fields_in geometry_of sector_at tag_run_of walk_of_grid plan_of grid_with blank_bound bitmap_sectors_for regions_for fitting_log2_region is_used number_of id_in entry_size entries_per_sector section_entries section_sectors
dump_of-no_number = refl

-- Nor are they where a zero sector stands behind the bitmap's, or a used entry outside the zero ones.
dump_of-not_blank : (dump_of 256 (image_zeroed 0 9) ≡ Err (Scan (NoNumber 0 0 0)))
    × (dump_of 256 (image_used 0 2) ≡ Err (Scan (NoNumber 0 0 0)))
unfolding superblock_of fields_in geometry_of sector_at tag_run_of walk_of_grid plan_of grid_with blank_bound bitmap_sectors_for regions_for fitting_log2_region is_used number_of id_in entry_size entries_per_sector section_entries section_sectors
dump_of-not_blank = (refl, refl)

-- ---- lines

joined_lines-small : joined_lines (dump_lines small_dump) ≡
    codes "version 4\ninterleave 8\ntag 32\nsections 1\nprovided 80\nflags 0x8\nblock 512\n"
    ++ codes "log2 blocks per bit 15\nrecalculate 0\n"
    ++ codes "salt 00000000000000000000000000000000\ninitial 96\ntag run 8\n"
    ++ codes "section entries 80\nsection sectors 88\nblocks 80\n"
    ++ codes "journal rest next 0 number 1\n"
unfolding digits encode_with tag_run_of entry_size entries_per_sector section_entries section_sectors
joined_lines-small = refl

-- With a bitmap the last line tells how many of its bits are set.
joined_lines-bitmap : joined_lines (dump_lines (bitmap_dump 15 1)) ≡
    codes "version 4\ninterleave 8\ntag 32\nsections 1\nprovided 80\nflags 0xc\nblock 512\n"
    ++ codes "log2 blocks per bit 15\nrecalculate 0\n"
    ++ codes "salt 00000000000000000000000000000000\ninitial 96\ntag run 8\n"
    ++ codes "section entries 80\nsection sectors 88\nblocks 80\n"
    ++ codes "journal bitmap set 1\n"
unfolding digits encode_with tag_run_of entry_size entries_per_sector section_entries section_sectors
joined_lines-bitmap = refl

-- Tags of 20 bytes with interleave 32, and blocks of 4096 bytes with interleave 8, each with one section.
abbrev shown_with : ℕ → ℕ → ℕ → ℕ → Dump
shown_with log2_interleave tag_size log2_spb provided =
    let fields : Superblock = record small {
      log2_interleave = log2_interleave;
      tag_size = tag_size;
      log2_spb = log2_spb;
      provided = provided;
    } in
    record { format = record { fields = fields; geometry = layout_of fields }; journal = State (Erasing 2) }

joined_lines-straddling : joined_lines (dump_lines (shown_with 5 20 0 320)) ≡
    codes "version 4\ninterleave 32\ntag 20\nsections 1\nprovided 320\nflags 0x8\nblock 512\n"
    ++ codes "log2 blocks per bit 15\nrecalculate 0\n"
    ++ codes "salt 00000000000000000000000000000000\ninitial 112\ntag run 8\n"
    ++ codes "section entries 96\nsection sectors 104\nblocks 320\n"
    ++ codes "journal erasing newest 2\n"
unfolding digits encode_with tag_run_of entry_size entries_per_sector section_entries section_sectors
joined_lines-straddling = refl

joined_lines-large_blocks : joined_lines (dump_lines (shown_with 3 32 3 376)) ≡
    codes "version 4\ninterleave 8\ntag 32\nsections 1\nprovided 376\nflags 0x8\nblock 4096\n"
    ++ codes "log2 blocks per bit 15\nrecalculate 0\n"
    ++ codes "salt 00000000000000000000000000000000\ninitial 272\ntag run 8\n"
    ++ codes "section entries 32\nsection sectors 264\nblocks 47\n"
    ++ codes "journal erasing newest 2\n"
unfolding digits encode_with tag_run_of entry_size entries_per_sector section_entries section_sectors
joined_lines-large_blocks = refl

state_text-each : (state_text (Rest 2 3) ≡ codes "rest next 2 number 3")
    × (state_text (Mixed 1) ≡ codes "mixed newest 1")
    × (state_text (Erasing 0) ≡ codes "erasing newest 0") × (state_text (Blank 3) ≡ codes "blank number 3")
unfolding digits
state_text-each = (refl, refl, refl, refl)
