-- The bad blocks of an image of two blocks, by computing.
use Rattle.std.proofs.Common.{◌≡◌, ℕ, ◌-◌, ◌==◌, nat_lt, ◌||◌, if◌then◌else◌, refl, None, List, [], ◌∷◌, ◌++◌, replicate}
use Rattle.std.specs.List.{repeat}
use Rattle.disk_model.specs.Disk.{Image}
use Rattle.image_model.specs.Bitmap.{awaits, is_bit_set}
use Rattle.image_model.specs.Cells.{placed_cells_of, replayed_entries, cells_of}
use Rattle.image_model.specs.CommitId.{commit_id, number_of, id_in}
use Rattle.image_model.specs.Geometry.{layout_of, entry_size, entries_per_sector, section_entries, section_sectors, regions_for, bitmap_sectors_for, fitting_log2_region, tag_run_of, sector_at, data_at, tag_offset, tag_at}
use Rattle.image_model.specs.Grid.{grid_with, blank_bound}
use Rattle.image_model.specs.Scan.{walk_of_grid}
use Rattle.image_model.specs.Section.{is_used, entry_at}
use Rattle.image_model.specs.Sectors.{bytes_of}
use Rattle.image_model.specs.Superblock.{Superblock}
use Rattle.image_model.specs.Tag.{tag_message, tag_of}
use Rattle.image_model.specs.Walk.{plan_of}
use Rattle.sha2.specs.Sha256.{sha256, first_words, schedule, rounds, compress, hash_after, digest_bytes}
use Rattle.place_model.specs.Format.{DiskFormat}
use Rattle.check_model.specs.Bad.{bad_blocks}
use Rattle.check_model.specs.declared.bad.Bad.{Bad}
use Rattle.image_model.specs.declared.judged.What.TheVariants.{Cells, Placed}
use Rattle.check_model.specs.Report.{awaiting_in}

-- Blocks of one sector, tags of 32 bytes, and a journal of one section, in the sectors 8 to 95. Sector 96 has the tags,
-- and the blocks have the sectors 104 and 105.
abbrev fields : Superblock
fields = record {
  version = 4;
  log2_interleave = 3;
  tag_size = 32;
  sections = 1;
  provided = 2;
  flags = 0x8;
  log2_spb = 0;
  log2_region = 15;
  recalc_sector = 0;
  salt = replicate 16 0;
}

abbrev format : DiskFormat
format = record { key = None; sectors = 112; superblock = fields; geometry = layout_of fields }

-- The SHA-256 of the number 0 in 8 bytes, the lowest first, and 512 zeros: by Python's `hashlib`;
abbrev zeros_0 : List ℕ
zeros_0 =
    0x20 ∷ 0xaa ∷ 0x49 ∷ 0x7d ∷ 0x9b ∷ 0xd4 ∷ 0xc1 ∷ 0x9e ∷ 0x85 ∷ 0x1e ∷ 0x3d ∷ 0xf6 ∷
    0xe3 ∷ 0x86 ∷ 0x70 ∷ 0x0f ∷ 0xaa ∷ 0xda ∷ 0x21 ∷ 0x3d ∷ 0xb3 ∷ 0x8a ∷ 0xcf ∷ 0x76 ∷
    0x79 ∷ 0xf6 ∷ 0x36 ∷ 0x58 ∷ 0x32 ∷ 0x83 ∷ 0x0b ∷ 0x3d ∷ []

-- that of the number 1 and 512 zeros,
abbrev zeros_1 : List ℕ
zeros_1 =
    0xdd ∷ 0xfb ∷ 0xbf ∷ 0xa5 ∷ 0xd9 ∷ 0x35 ∷ 0x3b ∷ 0x8d ∷ 0xb3 ∷ 0x87 ∷ 0xed ∷ 0xfb ∷
    0x6f ∷ 0x57 ∷ 0x0d ∷ 0xae ∷ 0xc6 ∷ 0xa4 ∷ 0x31 ∷ 0xe7 ∷ 0x69 ∷ 0xb6 ∷ 0xd0 ∷ 0xaf ∷
    0x0a ∷ 0xb4 ∷ 0x97 ∷ 0x7d ∷ 0xb0 ∷ 0x62 ∷ 0xcd ∷ 0xdb ∷ []

-- and that of the number 0 and 512 bytes aa.
abbrev entry_0 : List ℕ
entry_0 =
    0x17 ∷ 0x7c ∷ 0xc4 ∷ 0x5b ∷ 0xe6 ∷ 0xe3 ∷ 0x3f ∷ 0x20 ∷ 0x64 ∷ 0x33 ∷ 0xf4 ∷ 0xaf ∷
    0x1c ∷ 0xd1 ∷ 0xff ∷ 0xd8 ∷ 0x1b ∷ 0x9d ∷ 0xe3 ∷ 0x4c ∷ 0x96 ∷ 0xd4 ∷ 0x5e ∷ 0x1a ∷
    0x70 ∷ 0xdd ∷ 0xbc ∷ 0x32 ∷ 0x41 ∷ 0xd4 ∷ 0xb8 ∷ 0xad ∷ []

-- An unused entry as it is written, and that of a block 0 of bytes aa.
abbrev unused : List ℕ
unused = replicate 4 0 ++ replicate 4 0xff ++ replicate 40 0

abbrev used : List ℕ
used = replicate 8 0 ++ replicate 8 0xaa ++ entry_0

-- The journal's sector k with its first entry and its first 504 bytes of data, and number 1.
abbrev journal_sector : List ℕ → List ℕ → ℕ → List ℕ
journal_sector entry part k =
    (if nat_lt k 8 then (if k == 0 then entry else unused) ++ repeat 9 unused ++ replicate 24 0
    else if k == 8 then part else replicate 504 0) ++ bytes_of (commit_id 0 k 1) 8

-- Both blocks have zeros, and the tag of block 1 is right. That of block 0 is not.
abbrev image_with : List ℕ → List ℕ → Image
image_with entry part sector =
    if sector == 96 then replicate 32 0x7e ++ zeros_1 ++ replicate 448 0 else
    if nat_lt sector 8 || nat_lt 95 sector then replicate 512 0 else
    journal_sector entry part (sector - 8)

-- With a journal that has no entry, and with one that has another block 0.
abbrev fresh : Image
fresh = image_with unused (replicate 504 0)

abbrev committed : Image
committed = image_with used (replicate 504 0xaa)

-- What is placed of block 0 is bad with any journal,
abbrev bad_0 : Bad
bad_0 = record { block = 0; stored = replicate 32 0x7e; computed = zeros_0 }

bad_blocks-placed : bad_blocks Placed format committed ≡ bad_0 ∷ []
unfolding placed_cells_of data_at sector_at tag_at tag_offset tag_run_of bitmap_sectors_for regions_for fitting_log2_region entry_size entries_per_sector section_entries section_sectors first_words schedule rounds compress hash_after digest_bytes sha256 tag_message tag_of
bad_blocks-placed = refl

-- and so is the block, where the journal has no entry of it,
bad_blocks-fresh : bad_blocks Cells format fresh ≡ bad_0 ∷ []
unfolding cells_of placed_cells_of awaits replayed_entries entry_at walk_of_grid plan_of grid_with blank_bound bitmap_sectors_for regions_for fitting_log2_region is_used number_of id_in data_at sector_at tag_at tag_offset tag_run_of entry_size entries_per_sector section_entries section_sectors first_words schedule rounds compress hash_after digest_bytes sha256 tag_message tag_of
bad_blocks-fresh = refl

-- but not where that has one with its tag.
bad_blocks-committed : bad_blocks Cells format committed ≡ []
unfolding cells_of placed_cells_of awaits replayed_entries entry_at walk_of_grid plan_of grid_with blank_bound bitmap_sectors_for regions_for fitting_log2_region is_used number_of id_in data_at sector_at tag_at tag_offset tag_run_of entry_size entries_per_sector section_entries section_sectors first_words schedule rounds compress hash_after digest_bytes sha256 tag_message tag_of
bad_blocks-committed = refl

-- ---- with a bitmap

-- The same blocks and tags, each block a region of its own, with a bitmap that begins with this byte.
abbrev dirty_fields : Superblock
dirty_fields = record fields { flags = 0xc; log2_region = 0 }

abbrev dirty_format : DiskFormat
dirty_format = record { key = None; sectors = 112; superblock = dirty_fields; geometry = layout_of dirty_fields }

abbrev dirty_with : ℕ → Image
dirty_with byte sector =
    if sector == 96 then replicate 32 0x7e ++ zeros_1 ++ replicate 448 0 else
    if sector == 8 then byte ∷ replicate 511 0 else replicate 512 0

-- Block 0 is not bad where its region is dirty,
bad_blocks-dirty : bad_blocks Cells dirty_format (dirty_with 1) ≡ []
unfolding cells_of placed_cells_of awaits is_bit_set bitmap_sectors_for regions_for data_at sector_at tag_at tag_offset tag_run_of entry_size entries_per_sector section_entries section_sectors first_words schedule rounds compress hash_after digest_bytes sha256 tag_message tag_of
bad_blocks-dirty = refl

-- it is where another one is, or none,
bad_blocks-clean : bad_blocks Cells dirty_format (dirty_with 2) ≡ bad_0 ∷ []
unfolding cells_of placed_cells_of awaits is_bit_set bitmap_sectors_for regions_for data_at sector_at tag_at tag_offset tag_run_of entry_size entries_per_sector section_entries section_sectors first_words schedule rounds compress hash_after digest_bytes sha256 tag_message tag_of
bad_blocks-clean = refl

-- and what is placed of it is in any case.
bad_blocks-dirty_placed : bad_blocks Placed dirty_format (dirty_with 1) ≡ bad_0 ∷ []
unfolding placed_cells_of data_at sector_at tag_at tag_offset tag_run_of entry_size entries_per_sector section_entries section_sectors first_words schedule rounds compress hash_after digest_bytes sha256 tag_message tag_of
bad_blocks-dirty_placed = refl

-- The blocks of dirty regions await; bits 2 to 7 are of no region.
awaiting_in-dirty : (awaiting_in dirty_format (dirty_with 1) ≡ 1) × (awaiting_in dirty_format (dirty_with 0xfe) ≡ 1) × (awaiting_in dirty_format (dirty_with 0xff) ≡ 2)
unfolding awaits is_bit_set bitmap_sectors_for regions_for
awaiting_in-dirty = (refl, refl, refl)

-- ---- where tags are to be recalculated

-- The same blocks with a journal, whose tags are to be recalculated from this sector of the device on.
abbrev from_fields : ℕ → Superblock
from_fields sector = record fields { flags = 0xa; recalc_sector = sector }

abbrev from_format : ℕ → DiskFormat
from_format sector = record { key = None; sectors = 112; superblock = from_fields sector; geometry = layout_of (from_fields sector) }

-- Block 0 is not bad where that is its own sector,
bad_blocks-from_0 : bad_blocks Cells (from_format 0) fresh ≡ []
unfolding cells_of placed_cells_of awaits replayed_entries entry_at walk_of_grid plan_of grid_with blank_bound bitmap_sectors_for regions_for fitting_log2_region is_used number_of id_in data_at sector_at tag_at tag_offset tag_run_of entry_size entries_per_sector section_entries section_sectors first_words schedule rounds compress hash_after digest_bytes sha256 tag_message tag_of
bad_blocks-from_0 = refl

-- it is where the next block alone awaits,
bad_blocks-from_1 : bad_blocks Cells (from_format 1) fresh ≡ bad_0 ∷ []
unfolding cells_of placed_cells_of awaits replayed_entries entry_at walk_of_grid plan_of grid_with blank_bound bitmap_sectors_for regions_for fitting_log2_region is_used number_of id_in data_at sector_at tag_at tag_offset tag_run_of entry_size entries_per_sector section_entries section_sectors first_words schedule rounds compress hash_after digest_bytes sha256 tag_message tag_of
bad_blocks-from_1 = refl

-- and what is placed of it is in any case.
bad_blocks-from_0_placed : bad_blocks Placed (from_format 0) fresh ≡ bad_0 ∷ []
unfolding placed_cells_of data_at sector_at tag_at tag_offset tag_run_of bitmap_sectors_for regions_for fitting_log2_region entry_size entries_per_sector section_entries section_sectors first_words schedule rounds compress hash_after digest_bytes sha256 tag_message tag_of
bad_blocks-from_0_placed = refl

-- The blocks from there on await, also where the journal has an entry of one; none does behind the last sector.
awaiting_in-from : (awaiting_in (from_format 0) committed ≡ 2) × (awaiting_in (from_format 1) committed ≡ 1) × (awaiting_in (from_format 2) committed ≡ 0)
unfolding awaits
awaiting_in-from = (refl, refl, refl)
