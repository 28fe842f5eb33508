-- Whole images, by computing: their walks, their entries and their cells.
use Rattle.std.proofs.Common.{◌≡◌, ℕ, ◌-◌, ◌==◌, nat_lt, ◌&&◌, ◌||◌, ◌+◌, if◌then◌else◌, refl, Ok, Err, Some, None, List, [], ◌∷◌, ◌++◌, replicate}
use Rattle.std.specs.List.{repeat}
use Rattle.disk_model.specs.Disk.{Image}
use Rattle.image_model.specs.Bitmap.{awaits}
use Rattle.image_model.specs.Cells.{placed_cells_of, replayed_entries, cells_of}
use Rattle.image_model.specs.CommitId.{commit_id, number_of, id_in}
use Rattle.image_model.specs.Geometry.{Geometry, layout_of, entry_size, entries_per_sector, section_entries, section_sectors, regions_for, bitmap_sectors_for, fitting_log2_region, tag_run_of, sector_at, data_at, tag_offset, tag_at}
use Rattle.image_model.specs.Grid.{grid_with, blank_bound, walk_of}
use Rattle.image_model.specs.Openable.{Scan, JournalBlock, entry_fault, journal_fault_of}
use Rattle.image_model.specs.Scan.{walk_of_grid}
use Rattle.image_model.specs.declared.scan_fault.ScanFault.TheVariants.{NoNumber}
use Rattle.image_model.specs.Section.{is_used, entry_at}
use Rattle.image_model.specs.Sectors.{bytes_of}
use Rattle.image_model.specs.Superblock.{Superblock}
use Rattle.image_model.specs.Walk.{plan_of}
use Rattle.image_model.specs.declared.journal_plan.State.TheVariants.{Rest, Mixed, Blank}

-- Fields with blocks of one sector and one section.
abbrev fields : ℕ → ℕ → ℕ → Superblock
fields log2_interleave tag_size provided = record {
  version = 4;
  log2_interleave = log2_interleave;
  tag_size = tag_size;
  sections = 1;
  provided = provided;
  flags = 0x8;
  log2_spb = 0;
  log2_region = 15;
  recalc_sector = 0;
  salt = replicate 16 0;
}

-- The small image: 80 blocks, whose journal has sectors 8 to 95 of the disk.
abbrev small : Superblock
small = fields 3 32 80

abbrev g : Geometry
g = layout_of small

-- An unused entry as it is written.
abbrev unused : List ℕ
unused = replicate 4 0 ++ replicate 4 0xff ++ replicate 40 0

-- The entry of a sector below 256, of a block of so many bytes aa.
abbrev used : ℕ → List ℕ
used sector = sector ∷ replicate 7 0 ++ replicate 8 0xaa ++ replicate 32 0x7e

-- The journal's sector k with its first entry and its first 504 bytes of data, and a number.
abbrev journal_sector : List ℕ → List ℕ → ℕ → ℕ → List ℕ
journal_sector entry part number k =
    (if nat_lt k 8 then entry ++ repeat 9 unused ++ replicate 24 0 else part) ++ bytes_of (commit_id 0 k number) 8

-- The small image with zeros in all blocks and in all tags, the entry and the part of data in the journal's sectors 0 and 8,
-- and `number` on its sectors below `end`, and 0 on the others.
abbrev image_with : List ℕ → List ℕ → ℕ → ℕ → Image
image_with entry part number end sector =
    if nat_lt sector 8 || nat_lt 95 sector then replicate 512 0 else
    journal_sector (if sector == 8 then entry else unused) (if sector == 16 then part else replicate 504 0) (if nat_lt (sector - 8) end then number else 0) (sector - 8)

-- As it is formatted: at rest, and section 0 is written next, with number 1.
abbrev fresh : Image
fresh = image_with unused (replicate 504 0) 0 88

walk_of-fresh : walk_of g fresh ≡ Ok (record { state = Rest 0 1; walk = (0, 0) ∷ (0, 1) ∷ [] })
unfolding walk_of_grid plan_of grid_with blank_bound bitmap_sectors_for regions_for fitting_log2_region is_used number_of id_in entry_size entries_per_sector section_entries section_sectors
walk_of-fresh = refl

replayed_entries-fresh : replayed_entries g fresh ≡ []
unfolding replayed_entries entry_at walk_of_grid plan_of grid_with blank_bound bitmap_sectors_for regions_for fitting_log2_region is_used number_of id_in entry_size entries_per_sector section_entries section_sectors
replayed_entries-fresh = refl

journal_fault_of-fresh : journal_fault_of None None g fresh ≡ None
unfolding journal_fault_of entry_at walk_of_grid plan_of grid_with blank_bound bitmap_sectors_for regions_for fitting_log2_region is_used number_of id_in entry_size entries_per_sector section_entries section_sectors
journal_fault_of-fresh = refl

-- After the commit of a write to block 5: the next number is 2, and the entry is replayed.
abbrev committed : Image
committed = image_with (used 5) (replicate 504 0xaa) 1 88

walk_of-committed : walk_of g committed ≡ Ok (record { state = Rest 0 2; walk = (0, 0) ∷ (0, 1) ∷ [] })
unfolding walk_of_grid plan_of grid_with blank_bound bitmap_sectors_for regions_for fitting_log2_region is_used number_of id_in entry_size entries_per_sector section_entries section_sectors
walk_of-committed = refl

replayed_entries-committed : replayed_entries g committed ≡ record { sector = 5; bytes = replicate 512 0xaa; tag = replicate 32 0x7e } ∷ []
unfolding replayed_entries entry_at walk_of_grid plan_of grid_with blank_bound bitmap_sectors_for regions_for fitting_log2_region is_used number_of id_in entry_size entries_per_sector section_entries section_sectors
replayed_entries-committed = refl

-- Block 5 reads as the entry, and block 6 as what is placed.
cells_of-committed_5 : cells_of None small g committed 5 ≡ record { bytes = replicate 512 0xaa; tag = replicate 32 0x7e }
unfolding cells_of placed_cells_of awaits replayed_entries entry_at walk_of_grid plan_of grid_with blank_bound bitmap_sectors_for regions_for fitting_log2_region is_used number_of id_in data_at sector_at tag_at tag_offset tag_run_of entry_size entries_per_sector section_entries section_sectors
cells_of-committed_5 = refl

cells_of-committed_6 : cells_of None small g committed 6 ≡ record { bytes = replicate 512 0; tag = replicate 32 0 }
unfolding cells_of placed_cells_of awaits replayed_entries entry_at walk_of_grid plan_of grid_with blank_bound bitmap_sectors_for regions_for fitting_log2_region is_used number_of id_in data_at sector_at tag_at tag_offset tag_run_of entry_size entries_per_sector section_entries section_sectors
cells_of-committed_6 = refl

-- The same commit cut after 40 sectors: nothing is replayed.
abbrev cut : Image
cut = image_with (used 5) (replicate 504 0xaa) 1 40

walk_of-cut : walk_of g cut ≡ Ok (record { state = Mixed 1; walk = (0, 0) ∷ (0, 0) ∷ [] })
unfolding walk_of_grid plan_of grid_with blank_bound bitmap_sectors_for regions_for fitting_log2_region is_used number_of id_in entry_size entries_per_sector section_entries section_sectors
walk_of-cut = refl

cells_of-cut_5 : cells_of None small g cut 5 ≡ record { bytes = replicate 512 0; tag = replicate 32 0 }
unfolding cells_of placed_cells_of awaits replayed_entries entry_at walk_of_grid plan_of grid_with blank_bound bitmap_sectors_for regions_for fitting_log2_region is_used number_of id_in data_at sector_at tag_at tag_offset tag_run_of entry_size entries_per_sector section_entries section_sectors
cells_of-cut_5 = refl

-- An entry of sector 80, which is behind the last block.
journal_fault_of-behind : journal_fault_of None None g (image_with (used 80) (replicate 504 0xaa) 1 88) ≡ Some (JournalBlock 0 0 80)
unfolding journal_fault_of entry_fault entry_at walk_of_grid plan_of grid_with blank_bound bitmap_sectors_for regions_for fitting_log2_region is_used number_of id_in entry_size entries_per_sector section_entries section_sectors
journal_fault_of-behind = refl

-- A journal whose sectors bear the ids of another place.
journal_fault_of-foreign : journal_fault_of None None g (λ sector. fresh (sector + 1)) ≡ Some (Scan (NoNumber 0 0 0x1111_1111_1111_1110))
unfolding journal_fault_of entry_fault entry_at walk_of_grid plan_of grid_with blank_bound bitmap_sectors_for regions_for fitting_log2_region is_used number_of id_in entry_size entries_per_sector section_entries section_sectors
journal_fault_of-foreign = refl

-- ---- blanks, of a bitmap of 8 sectors

-- A change to a bitmap was cut: its sectors are zero below `end`, and the journal is empty of a number.
abbrev blank : ℕ → ℕ → Image
blank number end sector = if nat_lt 7 sector && nat_lt sector end then replicate 512 0 else image_with unused (replicate 504 0) number 88 sector

-- After three of its sectors, and no other is zero.
walk_of_grid-blank_begun : walk_of_grid (grid_with 8 g (blank 3 11)) ≡ Ok (record { state = Blank 3; walk = (0, 0) ∷ (0, 0) ∷ [] })
unfolding walk_of_grid plan_of grid_with is_used number_of id_in entry_size entries_per_sector section_entries section_sectors
walk_of_grid-blank_begun = refl

-- After all of them, as a change to a journal leaves them too.
walk_of_grid-blank_left : walk_of_grid (grid_with 8 g (blank 0 16)) ≡ Ok (record { state = Blank 0; walk = (0, 0) ∷ (0, 0) ∷ [] })
unfolding walk_of_grid plan_of grid_with is_used number_of id_in entry_size entries_per_sector section_entries section_sectors
walk_of_grid-blank_left = refl

-- The same, with sector 20 zero too.
walk_of_grid-zero_outside : walk_of_grid (grid_with 8 g (λ sector. if sector == 20 then replicate 512 0 else blank 0 16 sector)) ≡ Err (NoNumber 0 0 0)
unfolding walk_of_grid plan_of grid_with is_used number_of id_in entry_size entries_per_sector section_entries section_sectors
walk_of_grid-zero_outside = refl

-- The same, where no sector may be blank.
walk_of_grid-no_bitmap : walk_of_grid (grid_with 0 g (blank 0 16)) ≡ Err (NoNumber 0 0 0)
unfolding walk_of_grid plan_of grid_with is_used number_of id_in entry_size entries_per_sector section_entries section_sectors
walk_of_grid-no_bitmap = refl

-- ---- placed cells

-- Areas of 32 data sectors and tags of 20 bytes: block 25 lies at sector 145, and its tag begins at byte 500 of sector 112 and
-- goes on in sector 113. Each sector of this image has its number in each byte.
placed_cells_of-straddling : placed_cells_of (layout_of (fields 5 20 320)) (λ sector. replicate 512 sector) 25
    ≡ record { bytes = replicate 512 145; tag = replicate 12 112 ++ replicate 8 113 }
unfolding placed_cells_of data_at sector_at tag_at tag_offset tag_run_of entry_size entries_per_sector section_entries section_sectors
placed_cells_of-straddling = refl
