-- A fresh disk of eight blocks, with a journal and with a bitmap: each can be opened, and its sectors are whole.
-- The bytes of the first sector and the tags of blocks of zeros are those that a program of its own wrote when it formatted
-- such disks by the format's description.
use Rattle.std.proofs.Common.{◌≡◌, ℕ, ◌+◌, ◌-◌, ◌==◌, nat_lt, Bool, true, false, if◌then◌else◌, refl, ◌∙◌, ap, None, Ok, is_ok, List, [], ◌∷◌, ◌++◌, length, replicate, length-append}
use Rattle.std.specs.List.{repeat}
use Rattle.disk_model.specs.Disk.{Image}
use Rattle.image_model.specs.Bitmap.{is_dirty, is_bit_set}
use Rattle.image_model.specs.Cells.{replayed_entries}
use Rattle.image_model.specs.CommitId.{commit_id, number_of, id_in}
use Rattle.image_model.specs.Geometry.{layout_of, geometry_of, entry_size, entries_per_sector, section_entries, section_sectors, regions_for, bitmap_sectors_for, fitting_log2_region, tag_run_of, sector_at}
use Rattle.image_model.specs.Grid.{grid_with, blank_bound, walk_of}
use Rattle.image_model.specs.Scan.{walk_of_grid}
use Rattle.image_model.specs.Section.{is_used, entry_at}
use Rattle.image_model.specs.Sectors.{bytes_of}
use Rattle.image_model.specs.Superblock.{Superblock, superblock_of, fields_in}
use Rattle.image_model.specs.Walk.{plan_of}
use Rattle.image_model.specs.declared.journal_plan.State.TheVariants.{Rest}
use Rattle.place_model.specs.Format.{DiskFormat, IsReadAs, OpensAs, HasWholeSectors}
use Rattle.place_model.specs.Journal.{entries_in}
use Rattle.place_model.proofs.JournalLemmas.{replayed_entries-plan}

-- ---- the fields

-- With these flags, of a disk of 112 sectors with one section.
abbrev fields : ℕ → Superblock
fields flags = record {
  version = 4;
  log2_interleave = 3;
  tag_size = 32;
  sections = 1;
  provided = 8;
  flags = flags;
  log2_spb = 0;
  log2_region = 15;
  recalc_sector = 0;
  salt = replicate 16 0;
}

abbrev format : ℕ → DiskFormat
format flags = record { key = None; sectors = 112; superblock = fields flags; geometry = layout_of (fields flags) }

-- The disk with a journal, and the one with a bitmap.
abbrev pub journal_format : DiskFormat
journal_format = format 0x8

abbrev pub bitmap_format : DiskFormat
bitmap_format = format 0xc

-- ---- the sectors

abbrev journal_head : List ℕ
journal_head =
    0x69 ∷ 0x6e ∷ 0x74 ∷ 0x65 ∷ 0x67 ∷ 0x72 ∷ 0x74 ∷ 0x00 ∷ 0x04 ∷ 0x03 ∷ 0x20 ∷ 0x00 ∷ 0x01 ∷ 0x00 ∷ 0x00 ∷ 0x00
    ∷ 0x08 ∷ 0x00 ∷ 0x00 ∷ 0x00 ∷ 0x00 ∷ 0x00 ∷ 0x00 ∷ 0x00 ∷ 0x08 ∷ 0x00 ∷ 0x00 ∷ 0x00 ∷ 0x00 ∷ 0x0f ∷ 0x00 ∷ 0x00
    ∷ replicate 480 0

abbrev bitmap_head : List ℕ
bitmap_head =
    0x69 ∷ 0x6e ∷ 0x74 ∷ 0x65 ∷ 0x67 ∷ 0x72 ∷ 0x74 ∷ 0x00 ∷ 0x04 ∷ 0x03 ∷ 0x20 ∷ 0x00 ∷ 0x01 ∷ 0x00 ∷ 0x00 ∷ 0x00
    ∷ 0x08 ∷ 0x00 ∷ 0x00 ∷ 0x00 ∷ 0x00 ∷ 0x00 ∷ 0x00 ∷ 0x00 ∷ 0x0c ∷ 0x00 ∷ 0x00 ∷ 0x00 ∷ 0x00 ∷ 0x0f ∷ 0x00 ∷ 0x00
    ∷ replicate 480 0

-- The tags of the eight blocks of zeros.
abbrev zero_tags : List ℕ
zero_tags =
    0x20 ∷ 0xaa ∷ 0x49 ∷ 0x7d ∷ 0x9b ∷ 0xd4 ∷ 0xc1 ∷ 0x9e ∷ 0x85 ∷ 0x1e ∷ 0x3d ∷ 0xf6 ∷ 0xe3 ∷ 0x86 ∷ 0x70 ∷ 0x0f
    ∷ 0xaa ∷ 0xda ∷ 0x21 ∷ 0x3d ∷ 0xb3 ∷ 0x8a ∷ 0xcf ∷ 0x76 ∷ 0x79 ∷ 0xf6 ∷ 0x36 ∷ 0x58 ∷ 0x32 ∷ 0x83 ∷ 0x0b ∷ 0x3d
    ∷ 0xdd ∷ 0xfb ∷ 0xbf ∷ 0xa5 ∷ 0xd9 ∷ 0x35 ∷ 0x3b ∷ 0x8d ∷ 0xb3 ∷ 0x87 ∷ 0xed ∷ 0xfb ∷ 0x6f ∷ 0x57 ∷ 0x0d ∷ 0xae
    ∷ 0xc6 ∷ 0xa4 ∷ 0x31 ∷ 0xe7 ∷ 0x69 ∷ 0xb6 ∷ 0xd0 ∷ 0xaf ∷ 0x0a ∷ 0xb4 ∷ 0x97 ∷ 0x7d ∷ 0xb0 ∷ 0x62 ∷ 0xcd ∷ 0xdb
    ∷ 0x2c ∷ 0x95 ∷ 0x51 ∷ 0xbe ∷ 0xdc ∷ 0x6f ∷ 0x99 ∷ 0x0f ∷ 0x12 ∷ 0xa3 ∷ 0xb8 ∷ 0xf9 ∷ 0xd6 ∷ 0x1e ∷ 0xc1 ∷ 0xe3
    ∷ 0x11 ∷ 0x68 ∷ 0xa4 ∷ 0xcb ∷ 0xb6 ∷ 0xd3 ∷ 0xe5 ∷ 0xa4 ∷ 0x8a ∷ 0xae ∷ 0x22 ∷ 0x2e ∷ 0x6c ∷ 0x77 ∷ 0x4a ∷ 0x3a
    ∷ 0x84 ∷ 0x1b ∷ 0xb1 ∷ 0xa8 ∷ 0x80 ∷ 0xc2 ∷ 0x96 ∷ 0x5c ∷ 0x7e ∷ 0x1e ∷ 0x7c ∷ 0xc6 ∷ 0x03 ∷ 0x94 ∷ 0x49 ∷ 0x97
    ∷ 0xb1 ∷ 0x47 ∷ 0xee ∷ 0x8d ∷ 0xfe ∷ 0x16 ∷ 0xae ∷ 0xb6 ∷ 0xe2 ∷ 0x02 ∷ 0x63 ∷ 0xe8 ∷ 0x6c ∷ 0xdb ∷ 0x90 ∷ 0xfe
    ∷ 0xc0 ∷ 0x4f ∷ 0xa5 ∷ 0x2c ∷ 0xd0 ∷ 0x4c ∷ 0xd1 ∷ 0xe2 ∷ 0xe7 ∷ 0x0a ∷ 0x6f ∷ 0x77 ∷ 0x96 ∷ 0x50 ∷ 0xcb ∷ 0xd6
    ∷ 0x7a ∷ 0xa9 ∷ 0x04 ∷ 0xf2 ∷ 0x63 ∷ 0x2e ∷ 0x0b ∷ 0x0a ∷ 0x41 ∷ 0xe0 ∷ 0x0c ∷ 0x1a ∷ 0xe2 ∷ 0xf2 ∷ 0x84 ∷ 0x21
    ∷ 0x12 ∷ 0x02 ∷ 0x08 ∷ 0x19 ∷ 0xaa ∷ 0x2d ∷ 0x40 ∷ 0x7f ∷ 0x8d ∷ 0x97 ∷ 0xc0 ∷ 0x4a ∷ 0x9f ∷ 0xbc ∷ 0xdb ∷ 0xbe
    ∷ 0x90 ∷ 0x3e ∷ 0xf9 ∷ 0x64 ∷ 0xb6 ∷ 0xf6 ∷ 0x3a ∷ 0xcd ∷ 0x1d ∷ 0x09 ∷ 0x2f ∷ 0x03 ∷ 0x6b ∷ 0xaf ∷ 0xe6 ∷ 0x99
    ∷ 0x67 ∷ 0x9d ∷ 0x29 ∷ 0x2c ∷ 0xe0 ∷ 0x99 ∷ 0xbe ∷ 0xe5 ∷ 0xfd ∷ 0xdc ∷ 0xaa ∷ 0x1f ∷ 0x9c ∷ 0x33 ∷ 0x57 ∷ 0x33
    ∷ 0x9a ∷ 0x93 ∷ 0x63 ∷ 0xde ∷ 0x1c ∷ 0x2a ∷ 0x6d ∷ 0x71 ∷ 0x53 ∷ 0xaa ∷ 0x3f ∷ 0x53 ∷ 0xc7 ∷ 0x6f ∷ 0x61 ∷ 0x77
    ∷ 0x81 ∷ 0x0f ∷ 0xdc ∷ 0x63 ∷ 0xcf ∷ 0x2a ∷ 0xc1 ∷ 0x80 ∷ 0xf6 ∷ 0x43 ∷ 0xbe ∷ 0xd9 ∷ 0x01 ∷ 0xb2 ∷ 0x34 ∷ 0x15
    ∷ 0x4f ∷ 0x15 ∷ 0x49 ∷ 0x0c ∷ 0x5f ∷ 0xec ∷ 0xff ∷ 0x2a ∷ 0x1e ∷ 0xcb ∷ 0x88 ∷ 0x80 ∷ 0xe5 ∷ 0x68 ∷ 0x77 ∷ 0x7a ∷ []

-- Sector k of the journal, empty of number 0.
abbrev empty_sector : ℕ → List ℕ
empty_sector k =
    (if nat_lt k 8 then repeat 10 (replicate 4 0 ++ replicate 4 0xff ++ replicate 40 0) ++ replicate 24 0 else replicate 504 0)
    ++ bytes_of (commit_id 0 k 0) 8

-- The disk with this first sector, and from this sector on an empty journal.
abbrev disk_with : List ℕ → ℕ → Image
disk_with head from sector =
    if sector == 0 then head else
    if nat_lt sector from then replicate 512 0 else
    if nat_lt sector 96 then empty_sector (sector - 8) else
    if sector == 96 then zero_tags ++ replicate 256 0 else replicate 512 0

abbrev pub fresh_journal : Image
fresh_journal = disk_with journal_head 8

-- The same disk with a journal of zeros.
abbrev pub zeros_journal : Image
zeros_journal = disk_with journal_head 96

-- A bitmap has the first eight sectors of the journal.
abbrev pub fresh_bitmap : Image
fresh_bitmap = disk_with bitmap_head 16

-- ---- whole sectors

length-if : (b : Bool) (x y : List ℕ) (size : ℕ) → length x ≡ size → length y ≡ size → length (if b then x else y) ≡ size
length-if true x y size one other = one
length-if false x y size one other = other

length-empty_sector : (k : ℕ) → length (empty_sector k) ≡ 512
length-empty_sector k =
    let front = length-if (nat_lt k 8) (repeat 10 (replicate 4 0 ++ replicate 4 0xff ++ replicate 40 0) ++ replicate 24 0) (replicate 504 0) 504 refl refl in
    length-append (if nat_lt k 8 then repeat 10 (replicate 4 0 ++ replicate 4 0xff ++ replicate 40 0) ++ replicate 24 0 else replicate 504 0) (bytes_of (commit_id 0 k 0) 8)
    ∙ ap (λ (n : ℕ). n + 8) front

length-disk_with : (head : List ℕ) (from sector : ℕ) → length head ≡ 512 → length (disk_with head from sector) ≡ 512
length-disk_with head from sector size =
    length-if (sector == 0) head _ 512 size
    (length-if (nat_lt sector from) (replicate 512 0) _ 512 refl
    (length-if (nat_lt sector 96) (empty_sector (sector - 8)) _ 512 (length-empty_sector (sector - 8))
    (length-if (sector == 96) (zero_tags ++ replicate 256 0) (replicate 512 0) 512 refl refl)))

pub HasWholeSectors-journal : HasWholeSectors journal_format fresh_journal
HasWholeSectors-journal sector low = length-disk_with journal_head 8 sector refl

pub HasWholeSectors-zeros : HasWholeSectors journal_format zeros_journal
HasWholeSectors-zeros sector low = length-disk_with journal_head 96 sector refl

pub HasWholeSectors-bitmap : HasWholeSectors bitmap_format fresh_bitmap
HasWholeSectors-bitmap sector low = length-disk_with bitmap_head 16 sector refl

-- ---- openable images

superblock_of-journal : superblock_of journal_head ≡ Ok (fields 0x8)
unfolding superblock_of fields_in
superblock_of-journal = refl

superblock_of-bitmap : superblock_of bitmap_head ≡ Ok (fields 0xc)
unfolding superblock_of fields_in
superblock_of-bitmap = refl

geometry_of-journal : geometry_of (fields 0x8) 112 ≡ Ok (layout_of (fields 0x8))
unfolding geometry_of sector_at tag_run_of bitmap_sectors_for regions_for entry_size entries_per_sector section_entries section_sectors
geometry_of-journal = refl

geometry_of-bitmap : geometry_of (fields 0xc) 112 ≡ Ok (layout_of (fields 0xc))
unfolding geometry_of sector_at tag_run_of bitmap_sectors_for regions_for entry_size entries_per_sector section_entries section_sectors
geometry_of-bitmap = refl

-- The journal is at rest, and its start is written next, with number 1,
pub walk_of-fresh : walk_of (layout_of (fields 0x8)) fresh_journal ≡ Ok (record { state = Rest 0 1; walk = (0, 0) ∷ (0, 1) ∷ [] })
unfolding walk_of_grid plan_of grid_with blank_bound bitmap_sectors_for regions_for fitting_log2_region is_used number_of id_in entry_size entries_per_sector section_entries section_sectors
walk_of-fresh = refl

-- and has no entry.
pub replayed_entries-fresh : replayed_entries (layout_of (fields 0x8)) fresh_journal ≡ []
unfolding entries_in entry_at is_used entry_size entries_per_sector section_entries section_sectors
replayed_entries-fresh = replayed_entries-plan (layout_of (fields 0x8)) fresh_journal (record { state = Rest 0 1; walk = (0, 0) ∷ (0, 1) ∷ [] }) walk_of-fresh

pub OpensAs-journal : OpensAs journal_format fresh_journal
OpensAs-journal = record {
  openable = record {
    readable = record { superblock = fields 0x8; geometry = layout_of (fields 0x8); has_superblock = superblock_of-journal; has_geometry = geometry_of-journal };
    walk = λ clear. rw walk_of-fresh refl;
    entries = rw replayed_entries-fresh tt;
  };
  superblock = refl;
  geometry = refl;
}

-- A journal of zeros has no walk,
pub walk_of-zeros : is_ok (walk_of (layout_of (fields 0x8)) zeros_journal) ≡ false
unfolding walk_of_grid plan_of grid_with blank_bound bitmap_sectors_for regions_for fitting_log2_region is_used number_of id_in entry_size entries_per_sector section_entries section_sectors
walk_of-zeros = refl

-- but the disk can be read.
pub IsReadAs-zeros : IsReadAs journal_format zeros_journal
IsReadAs-zeros = record {
  readable = record { superblock = fields 0x8; geometry = layout_of (fields 0x8); has_superblock = superblock_of-journal; has_geometry = geometry_of-journal };
  superblock = refl;
  geometry = refl;
}

pub OpensAs-bitmap : OpensAs bitmap_format fresh_bitmap
OpensAs-bitmap = record {
  openable = record {
    readable = record { superblock = fields 0xc; geometry = layout_of (fields 0xc); has_superblock = superblock_of-bitmap; has_geometry = geometry_of-bitmap };
    walk = λ clear. absurd (let wrong : true ≡ false = clear in cc);
    entries = tt;
  };
  superblock = refl;
  geometry = refl;
}

-- No bit is set.
pub is_dirty-fresh : is_dirty (layout_of (fields 0xc)) fresh_bitmap 0 ≡ false
unfolding is_bit_set bitmap_sectors_for regions_for
is_dirty-fresh = refl
