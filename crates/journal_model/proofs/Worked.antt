-- Four small journals with a commit that was cut: of one section, of a batch of two, at the ring's end, and in an erasure.
-- Their walks and their cells are computed here; a program of its own, which reads the bytes of such images by the format's
-- description, gave the values.
use Rattle.std.proofs.Common.{◌≡◌, ℕ, ◌+◌, ◌-◌, ◌*◌, ◌/◌, ◌%◌, ◌==◌, nat_lt, if◌then◌else◌, refl, None, Ok, List, [], ◌∷◌, ◌++◌, replicate}
use Rattle.std.specs.List.{repeat}
use Rattle.disk_model.specs.Disk.{Image}
use Rattle.image_model.specs.Bitmap.{awaits}
use Rattle.image_model.specs.Cells.{placed_cells_of, replayed_entries, cells_of}
use Rattle.image_model.specs.CommitId.{commit_id, number_of, id_in}
use Rattle.image_model.specs.Geometry.{Geometry, layout_of, entry_size, entries_per_sector, section_entries, section_sectors, regions_for, bitmap_sectors_for, fitting_log2_region, tag_run_of, sector_at, data_at, tag_offset, tag_at}
use Rattle.image_model.specs.Grid.{grid_with, blank_bound, walk_of}
use Rattle.image_model.specs.Scan.{walk_of_grid}
use Rattle.image_model.specs.Section.{Entry, is_used, entry_at}
use Rattle.image_model.specs.Sectors.{bytes_of}
use Rattle.image_model.specs.Superblock.{Superblock}
use Rattle.image_model.specs.Walk.{plan_of}
use Rattle.image_model.specs.declared.journal_plan.State.TheVariants.{Rest, Mixed, Erasing}
use Rattle.place_model.specs.Journal.{entries_in}
use Rattle.place_model.proofs.JournalLemmas.{replayed_entries-plan}

-- ---- the disks: eight blocks, and sections of 88 sectors

-- The fields of a disk with so many sections.
abbrev fields : ℕ → Superblock
fields sections = record {
  version = 4;
  log2_interleave = 3;
  tag_size = 32;
  sections = sections;
  provided = 8;
  flags = 0x8;
  log2_spb = 0;
  log2_region = 15;
  recalc_sector = 0;
  salt = replicate 16 0;
}

abbrev g : ℕ → Geometry
g sections = layout_of (fields sections)

-- The tags of blocks 5 and 6 of zeros, of blocks 5 and 6 of bytes 0xaa and 0xbb, and of a block 5 of bytes 0xcc.
abbrev tag_5 : List ℕ
tag_5 =
    0x12 ∷ 0x02 ∷ 0x08 ∷ 0x19 ∷ 0xaa ∷ 0x2d ∷ 0x40 ∷ 0x7f ∷ 0x8d ∷ 0x97 ∷ 0xc0 ∷ 0x4a ∷ 0x9f ∷ 0xbc ∷ 0xdb ∷ 0xbe
    ∷ 0x90 ∷ 0x3e ∷ 0xf9 ∷ 0x64 ∷ 0xb6 ∷ 0xf6 ∷ 0x3a ∷ 0xcd ∷ 0x1d ∷ 0x09 ∷ 0x2f ∷ 0x03 ∷ 0x6b ∷ 0xaf ∷ 0xe6 ∷ 0x99 ∷ []

abbrev tag_6 : List ℕ
tag_6 =
    0x67 ∷ 0x9d ∷ 0x29 ∷ 0x2c ∷ 0xe0 ∷ 0x99 ∷ 0xbe ∷ 0xe5 ∷ 0xfd ∷ 0xdc ∷ 0xaa ∷ 0x1f ∷ 0x9c ∷ 0x33 ∷ 0x57 ∷ 0x33
    ∷ 0x9a ∷ 0x93 ∷ 0x63 ∷ 0xde ∷ 0x1c ∷ 0x2a ∷ 0x6d ∷ 0x71 ∷ 0x53 ∷ 0xaa ∷ 0x3f ∷ 0x53 ∷ 0xc7 ∷ 0x6f ∷ 0x61 ∷ 0x77 ∷ []

abbrev tag_5aa : List ℕ
tag_5aa =
    0xb5 ∷ 0x55 ∷ 0xb8 ∷ 0x33 ∷ 0x71 ∷ 0xaf ∷ 0x21 ∷ 0x41 ∷ 0xdf ∷ 0x2f ∷ 0xad ∷ 0xe2 ∷ 0xf5 ∷ 0xa7 ∷ 0x98 ∷ 0x9d
    ∷ 0x66 ∷ 0x72 ∷ 0xa4 ∷ 0x90 ∷ 0x11 ∷ 0x86 ∷ 0x4e ∷ 0x3f ∷ 0x7a ∷ 0x98 ∷ 0x42 ∷ 0x75 ∷ 0xeb ∷ 0xb7 ∷ 0x4b ∷ 0xd0 ∷ []

abbrev tag_6bb : List ℕ
tag_6bb =
    0xc9 ∷ 0x2a ∷ 0xf8 ∷ 0x49 ∷ 0x05 ∷ 0x73 ∷ 0x6b ∷ 0x12 ∷ 0x4a ∷ 0xa9 ∷ 0x00 ∷ 0x89 ∷ 0x29 ∷ 0x51 ∷ 0xde ∷ 0xde
    ∷ 0x02 ∷ 0xcb ∷ 0xaa ∷ 0xaa ∷ 0x09 ∷ 0xc8 ∷ 0x08 ∷ 0x98 ∷ 0x89 ∷ 0x3e ∷ 0xf9 ∷ 0xa8 ∷ 0xa7 ∷ 0x68 ∷ 0x02 ∷ 0x7e ∷ []

abbrev tag_5cc : List ℕ
tag_5cc =
    0x6f ∷ 0xf7 ∷ 0xcc ∷ 0x29 ∷ 0xda ∷ 0x66 ∷ 0xe5 ∷ 0x5a ∷ 0xa0 ∷ 0x3b ∷ 0xb1 ∷ 0x30 ∷ 0x78 ∷ 0x69 ∷ 0xba ∷ 0x70
    ∷ 0xc6 ∷ 0x8b ∷ 0xbf ∷ 0x03 ∷ 0x4a ∷ 0x08 ∷ 0xce ∷ 0x8c ∷ 0x63 ∷ 0xb5 ∷ 0xb7 ∷ 0x14 ∷ 0x1c ∷ 0x8f ∷ 0x7a ∷ 0xf0 ∷ []

-- An unused entry as it is written, and one of a block of so many equal bytes.
abbrev unused : List ℕ
unused = replicate 4 0 ++ replicate 4 0xff ++ replicate 40 0

abbrev used : ℕ → ℕ → List ℕ → List ℕ
used sector byte tag = sector ∷ replicate 7 0 ++ replicate 8 byte ++ tag

-- The same as an entry.
abbrev entry : ℕ → ℕ → List ℕ → Entry
entry sector byte tag = record { sector = sector; bytes = replicate 512 byte; tag = tag }

-- Sector j of a section whose first entry is this, of a block of these bytes.
abbrev sector_with : List ℕ → ℕ → (section number j : ℕ) → List ℕ
sector_with first byte section number j =
    (if nat_lt j 8
    then (if j == 0 then first else unused) ++ repeat 9 unused ++ replicate 24 0
    else replicate 504 (if j == 8 then byte else 0))
    ++ bytes_of (commit_id section j number) 8

-- The sectors of an empty section, and of the three that are committed with number 1.
abbrev empty : ℕ → ℕ → ℕ → List ℕ
empty number section j = sector_with unused 0 section number j

abbrev of_5aa : ℕ → ℕ → List ℕ
of_5aa section j = sector_with (used 5 0xaa tag_5aa) 0xaa section 1 j

abbrev of_6bb : ℕ → ℕ → List ℕ
of_6bb section j = sector_with (used 6 0xbb tag_6bb) 0xbb section 1 j

abbrev of_5cc : ℕ → ℕ → List ℕ
of_5cc section j = sector_with (used 5 0xcc tag_5cc) 0xcc section 1 j

-- The first 40 sectors of a section are new.
abbrev torn : (ℕ → ℕ → List ℕ) → (ℕ → ℕ → List ℕ) → ℕ → ℕ → List ℕ
torn new old section j = if nat_lt j 40 then new section j else old section j

-- The first section, and all behind it.
abbrev then_ : (ℕ → ℕ → List ℕ) → (ℕ → ℕ → List ℕ) → ℕ → ℕ → List ℕ
then_ first others section j = if section == 0 then first section j else others section j

-- The same of three sections.
abbrev three : (ℕ → ℕ → List ℕ) → (ℕ → ℕ → List ℕ) → (ℕ → ℕ → List ℕ) → ℕ → ℕ → List ℕ
three first second third section j = then_ first (λ i. if i == 1 then second i else third i) section j

-- A disk of so many sections with this journal, and in its places zeros with their tags, but for what block 5 holds.
abbrev disk_with : ℕ → (byte : ℕ) → List ℕ → (ℕ → ℕ → List ℕ) → Image
disk_with sections byte tag journal sector =
    if nat_lt sector 8 then replicate 512 0 else
    if nat_lt sector (8 + 88 * sections) then journal ((sector - 8) / 88) ((sector - 8) % 88) else
    if sector == 8 + 88 * sections then replicate 160 0 ++ tag ++ tag_6 ++ replicate 288 0 else
    if sector == 21 + 88 * sections then replicate 512 byte else replicate 512 0

-- ---- one section

-- A commit of block 5 was cut: nothing counts, and the block is as it was.
abbrev one_torn : Image
one_torn = disk_with 1 0 tag_5 (torn of_5aa (empty 0))

walk_of-one_torn : walk_of (g 1) one_torn ≡ Ok (record { state = Mixed 1; walk = (0, 0) ∷ (0, 0) ∷ [] })
unfolding walk_of_grid plan_of grid_with blank_bound bitmap_sectors_for regions_for fitting_log2_region is_used number_of id_in entry_size entries_per_sector section_entries section_sectors
walk_of-one_torn = refl

replayed_entries-one_torn : replayed_entries (g 1) one_torn ≡ []
unfolding entries_in entry_at is_used entry_size entries_per_sector section_entries section_sectors
replayed_entries-one_torn = replayed_entries-plan (g 1) one_torn (record { state = Mixed 1; walk = (0, 0) ∷ (0, 0) ∷ [] }) walk_of-one_torn

cells_of-one_torn_5 : cells_of None (fields 1) (g 1) one_torn 5 ≡ record { bytes = replicate 512 0; tag = tag_5 }
unfolding cells_of placed_cells_of awaits data_at sector_at tag_at tag_offset tag_run_of entry_size entries_per_sector section_entries section_sectors
cells_of-one_torn_5 = rw replayed_entries-one_torn refl

-- It is whole: block 5 is as committed, and writing goes on with number 2.
abbrev one_whole : Image
one_whole = disk_with 1 0 tag_5 of_5aa

walk_of-one_whole : walk_of (g 1) one_whole ≡ Ok (record { state = Rest 0 2; walk = (0, 0) ∷ (0, 1) ∷ [] })
unfolding walk_of_grid plan_of grid_with blank_bound bitmap_sectors_for regions_for fitting_log2_region is_used number_of id_in entry_size entries_per_sector section_entries section_sectors
walk_of-one_whole = refl

replayed_entries-one_whole : replayed_entries (g 1) one_whole ≡ entry 5 0xaa tag_5aa ∷ []
unfolding entries_in entry_at is_used entry_size entries_per_sector section_entries section_sectors
replayed_entries-one_whole = replayed_entries-plan (g 1) one_whole (record { state = Rest 0 2; walk = (0, 0) ∷ (0, 1) ∷ [] }) walk_of-one_whole

cells_of-one_whole_5 : cells_of None (fields 1) (g 1) one_whole 5 ≡ record { bytes = replicate 512 0xaa; tag = tag_5aa }
unfolding cells_of placed_cells_of awaits data_at sector_at tag_at tag_offset tag_run_of entry_size entries_per_sector section_entries section_sectors
cells_of-one_whole_5 = rw replayed_entries-one_whole refl

-- ---- a batch of two, in a ring of three

-- The second section was torn: the first counts, behind the untouched third.
abbrev two_torn : Image
two_torn = disk_with 3 0 tag_5 (three of_5aa (torn of_6bb (empty 0)) (empty 0))

walk_of-two_torn : walk_of (g 3) two_torn ≡ Ok (record { state = Mixed 1; walk = (2, 3) ∷ (0, 1) ∷ [] })
unfolding walk_of_grid plan_of grid_with blank_bound bitmap_sectors_for regions_for fitting_log2_region is_used number_of id_in entry_size entries_per_sector section_entries section_sectors
walk_of-two_torn = refl

replayed_entries-two_torn : replayed_entries (g 3) two_torn ≡ entry 5 0xaa tag_5aa ∷ []
unfolding entries_in entry_at is_used entry_size entries_per_sector section_entries section_sectors
replayed_entries-two_torn = replayed_entries-plan (g 3) two_torn (record { state = Mixed 1; walk = (2, 3) ∷ (0, 1) ∷ [] }) walk_of-two_torn

cells_of-two_torn_5 : cells_of None (fields 3) (g 3) two_torn 5 ≡ record { bytes = replicate 512 0xaa; tag = tag_5aa }
unfolding cells_of placed_cells_of awaits data_at sector_at tag_at tag_offset tag_run_of entry_size entries_per_sector section_entries section_sectors
cells_of-two_torn_5 = rw replayed_entries-two_torn refl

cells_of-two_torn_6 : cells_of None (fields 3) (g 3) two_torn 6 ≡ record { bytes = replicate 512 0; tag = tag_6 }
unfolding cells_of placed_cells_of awaits data_at sector_at tag_at tag_offset tag_run_of entry_size entries_per_sector section_entries section_sectors
cells_of-two_torn_6 = rw replayed_entries-two_torn refl

-- The first section was torn and the second is whole: neither counts.
abbrev two_gap : Image
two_gap = disk_with 3 0 tag_5 (three (torn of_5aa (empty 0)) of_6bb (empty 0))

walk_of-two_gap : walk_of (g 3) two_gap ≡ Ok (record { state = Mixed 1; walk = (2, 3) ∷ (0, 0) ∷ [] })
unfolding walk_of_grid plan_of grid_with blank_bound bitmap_sectors_for regions_for fitting_log2_region is_used number_of id_in entry_size entries_per_sector section_entries section_sectors
walk_of-two_gap = refl

replayed_entries-two_gap : replayed_entries (g 3) two_gap ≡ []
unfolding entries_in entry_at is_used entry_size entries_per_sector section_entries section_sectors
replayed_entries-two_gap = replayed_entries-plan (g 3) two_gap (record { state = Mixed 1; walk = (2, 3) ∷ (0, 0) ∷ [] }) walk_of-two_gap

cells_of-two_gap_5 : cells_of None (fields 3) (g 3) two_gap 5 ≡ record { bytes = replicate 512 0; tag = tag_5 }
unfolding cells_of placed_cells_of awaits data_at sector_at tag_at tag_offset tag_run_of entry_size entries_per_sector section_entries section_sectors
cells_of-two_gap_5 = rw replayed_entries-two_gap refl

cells_of-two_gap_6 : cells_of None (fields 3) (g 3) two_gap 6 ≡ record { bytes = replicate 512 0; tag = tag_6 }
unfolding cells_of placed_cells_of awaits data_at sector_at tag_at tag_offset tag_run_of entry_size entries_per_sector section_entries section_sectors
cells_of-two_gap_6 = rw replayed_entries-two_gap refl

-- Both are whole.
abbrev two_whole : Image
two_whole = disk_with 3 0 tag_5 (three of_5aa of_6bb (empty 0))

walk_of-two_whole : walk_of (g 3) two_whole ≡ Ok (record { state = Rest 2 1; walk = (2, 3) ∷ (0, 2) ∷ [] })
unfolding walk_of_grid plan_of grid_with blank_bound bitmap_sectors_for regions_for fitting_log2_region is_used number_of id_in entry_size entries_per_sector section_entries section_sectors
walk_of-two_whole = refl

replayed_entries-two_whole : replayed_entries (g 3) two_whole ≡ entry 5 0xaa tag_5aa ∷ entry 6 0xbb tag_6bb ∷ []
unfolding entries_in entry_at is_used entry_size entries_per_sector section_entries section_sectors
replayed_entries-two_whole = replayed_entries-plan (g 3) two_whole (record { state = Rest 2 1; walk = (2, 3) ∷ (0, 2) ∷ [] }) walk_of-two_whole

cells_of-two_whole_5 : cells_of None (fields 3) (g 3) two_whole 5 ≡ record { bytes = replicate 512 0xaa; tag = tag_5aa }
unfolding cells_of placed_cells_of awaits data_at sector_at tag_at tag_offset tag_run_of entry_size entries_per_sector section_entries section_sectors
cells_of-two_whole_5 = rw replayed_entries-two_whole refl

cells_of-two_whole_6 : cells_of None (fields 3) (g 3) two_whole 6 ≡ record { bytes = replicate 512 0xbb; tag = tag_6bb }
unfolding cells_of placed_cells_of awaits data_at sector_at tag_at tag_offset tag_run_of entry_size entries_per_sector section_entries section_sectors
cells_of-two_whole_6 = rw replayed_entries-two_whole refl

-- ---- the ring's end: the second of two sections

-- It was torn: the first counts, and what stood in the second is gone.
abbrev end_torn : Image
end_torn = disk_with 2 0 tag_5 (then_ of_5aa (torn of_5cc (empty 0)))

walk_of-end_torn : walk_of (g 2) end_torn ≡ Ok (record { state = Mixed 1; walk = (0, 0) ∷ (0, 1) ∷ [] })
unfolding walk_of_grid plan_of grid_with blank_bound bitmap_sectors_for regions_for fitting_log2_region is_used number_of id_in entry_size entries_per_sector section_entries section_sectors
walk_of-end_torn = refl

replayed_entries-end_torn : replayed_entries (g 2) end_torn ≡ entry 5 0xaa tag_5aa ∷ []
unfolding entries_in entry_at is_used entry_size entries_per_sector section_entries section_sectors
replayed_entries-end_torn = replayed_entries-plan (g 2) end_torn (record { state = Mixed 1; walk = (0, 0) ∷ (0, 1) ∷ [] }) walk_of-end_torn

cells_of-end_torn_5 : cells_of None (fields 2) (g 2) end_torn 5 ≡ record { bytes = replicate 512 0xaa; tag = tag_5aa }
unfolding cells_of placed_cells_of awaits data_at sector_at tag_at tag_offset tag_run_of entry_size entries_per_sector section_entries section_sectors
cells_of-end_torn_5 = rw replayed_entries-end_torn refl

-- It is whole: the later entry of block 5 counts, and writing goes on at the start with the next number.
abbrev end_whole : Image
end_whole = disk_with 2 0 tag_5 (then_ of_5aa of_5cc)

walk_of-end_whole : walk_of (g 2) end_whole ≡ Ok (record { state = Rest 0 2; walk = (0, 0) ∷ (0, 2) ∷ [] })
unfolding walk_of_grid plan_of grid_with blank_bound bitmap_sectors_for regions_for fitting_log2_region is_used number_of id_in entry_size entries_per_sector section_entries section_sectors
walk_of-end_whole = refl

replayed_entries-end_whole : replayed_entries (g 2) end_whole ≡ entry 5 0xaa tag_5aa ∷ entry 5 0xcc tag_5cc ∷ []
unfolding entries_in entry_at is_used entry_size entries_per_sector section_entries section_sectors
replayed_entries-end_whole = replayed_entries-plan (g 2) end_whole (record { state = Rest 0 2; walk = (0, 0) ∷ (0, 2) ∷ [] }) walk_of-end_whole

cells_of-end_whole_5 : cells_of None (fields 2) (g 2) end_whole 5 ≡ record { bytes = replicate 512 0xcc; tag = tag_5cc }
unfolding cells_of placed_cells_of awaits data_at sector_at tag_at tag_offset tag_run_of entry_size entries_per_sector section_entries section_sectors
cells_of-end_whole_5 = rw replayed_entries-end_whole refl

-- ---- an erasure, once block 5 is placed: the newest number is 1, and empty sectors get number 3

-- In the first part, of the section without the newest number.
abbrev erasing_first : Image
erasing_first = disk_with 2 0xaa tag_5aa (then_ of_5aa (torn (empty 3) (empty 0)))

walk_of-erasing_first : walk_of (g 2) erasing_first ≡ Ok (record { state = Erasing 1; walk = (0, 0) ∷ (0, 0) ∷ [] })
unfolding walk_of_grid plan_of grid_with blank_bound bitmap_sectors_for regions_for fitting_log2_region is_used number_of id_in entry_size entries_per_sector section_entries section_sectors
walk_of-erasing_first = refl

replayed_entries-erasing_first : replayed_entries (g 2) erasing_first ≡ []
unfolding entries_in entry_at is_used entry_size entries_per_sector section_entries section_sectors
replayed_entries-erasing_first = replayed_entries-plan (g 2) erasing_first (record { state = Erasing 1; walk = (0, 0) ∷ (0, 0) ∷ [] }) walk_of-erasing_first

cells_of-erasing_first_5 : cells_of None (fields 2) (g 2) erasing_first 5 ≡ record { bytes = replicate 512 0xaa; tag = tag_5aa }
unfolding cells_of placed_cells_of awaits data_at sector_at tag_at tag_offset tag_run_of entry_size entries_per_sector section_entries section_sectors
cells_of-erasing_first_5 = rw replayed_entries-erasing_first refl

-- In the last part, of the section with it.
abbrev erasing_last : Image
erasing_last = disk_with 2 0xaa tag_5aa (then_ (torn (empty 3) of_5aa) (empty 3))

walk_of-erasing_last : walk_of (g 2) erasing_last ≡ Ok (record { state = Erasing 1; walk = (0, 0) ∷ (0, 0) ∷ [] })
unfolding walk_of_grid plan_of grid_with blank_bound bitmap_sectors_for regions_for fitting_log2_region is_used number_of id_in entry_size entries_per_sector section_entries section_sectors
walk_of-erasing_last = refl

replayed_entries-erasing_last : replayed_entries (g 2) erasing_last ≡ []
unfolding entries_in entry_at is_used entry_size entries_per_sector section_entries section_sectors
replayed_entries-erasing_last = replayed_entries-plan (g 2) erasing_last (record { state = Erasing 1; walk = (0, 0) ∷ (0, 0) ∷ [] }) walk_of-erasing_last

cells_of-erasing_last_5 : cells_of None (fields 2) (g 2) erasing_last 5 ≡ record { bytes = replicate 512 0xaa; tag = tag_5aa }
unfolding cells_of placed_cells_of awaits data_at sector_at tag_at tag_offset tag_run_of entry_size entries_per_sector section_entries section_sectors
cells_of-erasing_last_5 = rw replayed_entries-erasing_last refl

-- At its end the journal is at rest, and its start is written next.
abbrev erased : Image
erased = disk_with 2 0xaa tag_5aa (empty 3)

walk_of-erased : walk_of (g 2) erased ≡ Ok (record { state = Rest 0 0; walk = (0, 0) ∷ (0, 2) ∷ [] })
unfolding walk_of_grid plan_of grid_with blank_bound bitmap_sectors_for regions_for fitting_log2_region is_used number_of id_in entry_size entries_per_sector section_entries section_sectors
walk_of-erased = refl

replayed_entries-erased : replayed_entries (g 2) erased ≡ []
unfolding entries_in entry_at is_used entry_size entries_per_sector section_entries section_sectors
replayed_entries-erased = replayed_entries-plan (g 2) erased (record { state = Rest 0 0; walk = (0, 0) ∷ (0, 2) ∷ [] }) walk_of-erased

cells_of-erased_5 : cells_of None (fields 2) (g 2) erased 5 ≡ record { bytes = replicate 512 0xaa; tag = tag_5aa }
unfolding cells_of placed_cells_of awaits data_at sector_at tag_at tag_offset tag_run_of entry_size entries_per_sector section_entries section_sectors
cells_of-erased_5 = rw replayed_entries-erased refl

cells_of-erased_6 : cells_of None (fields 2) (g 2) erased 6 ≡ record { bytes = replicate 512 0; tag = tag_6 }
unfolding cells_of placed_cells_of awaits data_at sector_at tag_at tag_offset tag_run_of entry_size entries_per_sector section_entries section_sectors
cells_of-erased_6 = rw replayed_entries-erased refl
