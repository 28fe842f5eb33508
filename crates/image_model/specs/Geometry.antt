-- Where the journal, the tags and the data lie on a disk, and which blocks of the device make a region.
-- Source: Linux, Documentation/admin-guide/device-mapper/dm-integrity.rst, and drivers/md/dm-integrity.c, by function.
use Rattle.std.specs.Prelude.{◌≡◌, ◌≤◌, ℕ, zero, suc, ◌+◌, ◌-◌, ◌*◌, ◌/◌, ◌%◌, ◌^◌, Bool, ◌&&◌, ◌==◌, nat_le, nat_lt, if◌then◌else◌, List, [], ◌∷◌, ◌++◌, Result}
use Rattle.image_model.specs.declared.byte_place.BytePlace.{BytePlace}
use Rattle.image_model.specs.declared.geom_fault.GeomFault.{GeomFault}
use Rattle.image_model.specs.declared.geom_fault.GeomFault.TheVariants.{DeviceTooLarge, JournalTooLarge, TooSmall, BitmapTooLarge}
use Rattle.image_model.specs.declared.flags.TheConstants.{DIRTY_BITMAP, FIXED_PADDING}
use Rattle.image_model.specs.Faults.{ok_unless}
use Rattle.image_model.specs.Superblock.{Superblock, has_flag}

-- A number divided by another, rounded up.
abbrev pub quotient_up : ℕ → ℕ → ℕ
quotient_up number by = (number + (by - 1)) / by

-- The least multiple of `by` that is not below the number.
abbrev pub round_up : ℕ → ℕ → ℕ
round_up number by = quotient_up number by * by

-- What a section of the journal follows from: the sectors of a block, and the bytes of a tag.
pub record Shape : Type 0 where
  pub spb : ℕ
  pub tag_size : ℕ

-- The bytes of an entry: the sector's number, the last 8 bytes of each of the block's sectors, and the tag, in whole
-- groups of 8. Source: calculate_journal_section_size, for this and the next three.
unfoldable pub entry_size : Shape → ℕ
entry_size shape = round_up (8 + 8 * shape.spb + shape.tag_size) 8

-- A metadata sector has 504 bytes for entries, and 8 for its commit id.
unfoldable pub entries_per_sector : Shape → ℕ
entries_per_sector shape = 504 / entry_size shape

-- A section has 8 metadata sectors.
unfoldable pub section_entries : Shape → ℕ
section_entries shape = 8 * entries_per_sector shape

-- Behind them it has the data sectors of its entries.
unfoldable pub section_sectors : Shape → ℕ
section_sectors shape = 8 + section_entries shape * shape.spb

-- What every place follows from: the sections of the journal, the data sectors of an area and the sectors of tags before
-- them, the blocks of the device, of which 2 ^ log2_region make a region.
pub record Geometry : Type 0 where
  pub shape : Shape
  pub sections : ℕ
  pub interleave : ℕ
  pub tag_run : ℕ
  pub blocks : ℕ
  pub log2_region : ℕ

-- The sectors of the tags of one area, whose bytes are rounded up.
-- Source: calculate_device_limits. Own: to 131072 bytes without FIXED_PADDING.
unfoldable pub tag_run_of : Superblock → ℕ
tag_run_of s =
    let padding = if has_flag FIXED_PADDING s.flags then 4096 else 131072 in
    round_up (2 ^ (s.log2_interleave - s.log2_spb) * s.tag_size) padding / 512

-- The geometry that the fields give, whatever the disk.
abbrev pub layout_of : Superblock → Geometry
layout_of s = record {
  shape = record { spb = 2 ^ s.log2_spb; tag_size = s.tag_size };
  sections = s.sections;
  interleave = 2 ^ s.log2_interleave;
  tag_run = tag_run_of s;
  blocks = s.provided / 2 ^ s.log2_spb;
  log2_region = s.log2_region;
}

-- The sector of the disk where section i of the journal begins. The superblock has sectors 0 to 7.
-- Source: rw_journal and rw_journal_sectors.
abbrev pub section_at : Geometry → ℕ → ℕ
section_at g i = 8 + i * section_sectors g.shape

-- The sectors of the journal.
abbrev pub journal_sectors : Geometry → ℕ
journal_sectors g = g.sections * section_sectors g.shape

-- The first sector behind the journal.
abbrev pub initial : Geometry → ℕ
initial g = 8 + journal_sectors g

-- The sector of the disk where an area begins: first the tags, then the data. Source: get_metadata_sector_and_offset.
abbrev pub area_at : Geometry → ℕ → ℕ
area_at g area = initial g + area * (g.tag_run + g.interleave)

-- The sector of the disk that holds sector x of the device. Source: get_area_and_offset, get_data_sector.
unfoldable pub sector_at : Geometry → ℕ → ℕ
sector_at g x = area_at g (x / g.interleave) + g.tag_run + x % g.interleave

-- The sector of the disk where the data of block b begin.
unfoldable pub data_at : Geometry → ℕ → ℕ
data_at g b = sector_at g (b * g.shape.spb)

-- The byte of its area's tags where the tag of block b begins.
unfoldable pub tag_offset : Geometry → ℕ → ℕ
tag_offset g b = b * g.shape.spb % g.interleave / g.shape.spb * g.shape.tag_size

-- A byte of the disk, by its sector and its number in that.
abbrev pub byte_place : (sector byte : ℕ) → BytePlace
byte_place sector byte = record { sector = sector; byte = byte }

-- The byte of the disk where the tag of block b begins. Source: get_metadata_sector_and_offset.
unfoldable pub tag_at : Geometry → ℕ → BytePlace
tag_at g b = byte_place (area_at g (b * g.shape.spb / g.interleave) + tag_offset g b / 512) (tag_offset g b % 512)

-- The region of block b.
abbrev pub region_of : Geometry → ℕ → ℕ
region_of g b = b / 2 ^ g.log2_region

-- So many blocks make so many regions, of which the last may be cut short.
unfoldable pub regions_for : ℕ → ℕ → ℕ
regions_for blocks log2_region = quotient_up blocks (2 ^ log2_region)

-- The sectors of their bitmap, which has one bit a region, in groups of 4096 bytes. Source: BITMAP_BLOCK_SIZE.
unfoldable pub bitmap_sectors_for : ℕ → ℕ → ℕ
bitmap_sectors_for blocks log2_region = 8 * quotient_up (regions_for blocks log2_region) 32768

-- The regions of the device.
abbrev pub regions : Geometry → ℕ
regions g = regions_for g.blocks g.log2_region

-- The sectors of the bitmap, which begins where the journal does.
abbrev pub bitmap_sectors : Geometry → ℕ
bitmap_sectors g = bitmap_sectors_for g.blocks g.log2_region

-- The first number from `from` on that passes, of so many numbers, and the one behind them where none does.
abbrev pub least_from : (ℕ → Bool) → ℕ → ℕ → ℕ
least_from passes from zero = from
least_from passes from (suc count) = if passes from then from else least_from passes (suc from) count

-- The least log2_region, not below the given one, whose bitmap fits the journal's sectors. With 48 more there is one region.
unfoldable pub fitting_log2_region : Geometry → ℕ
fitting_log2_region g = least_from (λ k. nat_le (bitmap_sectors_for g.blocks k) (journal_sectors g)) g.log2_region 48

-- The faults by size alone, each beside its test, on a disk of so many sectors. Own: both bounds.
abbrev pub size_faults : Geometry → ℕ → List (Bool × GeomFault)
size_faults g sectors =
    (nat_lt (2 ^ 48) sectors, DeviceTooLarge sectors)
    ∷ (nat_lt (2 ^ 20) (journal_sectors g), JournalTooLarge (journal_sectors g))
    ∷ []

-- Those, and the faults by where the data and the bitmap end.
abbrev pub geometry_faults : Superblock → ℕ → List (Bool × GeomFault)
geometry_faults s sectors =
    let g = layout_of s in
    let need = sector_at g (s.provided - 1) + 1 in
    let has_long_bitmap = has_flag DIRTY_BITMAP s.flags && nat_lt (journal_sectors g) (bitmap_sectors g) in
    size_faults g sectors
    ++ (nat_lt sectors need, TooSmall sectors need)
    ∷ (has_long_bitmap, BitmapTooLarge (bitmap_sectors g) (journal_sectors g))
    ∷ []

-- The geometry of the fields on a disk of so many sectors, or the first fault.
unfoldable pub geometry_of : Superblock → ℕ → Result Geometry GeomFault
geometry_of s sectors = ok_unless (geometry_faults s sectors) (layout_of s)

-- The most sectors, a multiple of 8, whose data lie on a disk of so many: those of whole areas, and of one cut short.
unfoldable pub best_provided : Geometry → ℕ → ℕ
best_provided g sectors =
    let space = sectors - initial g in
    let area = g.tag_run + g.interleave in
    (space / area * g.interleave + (space % area - g.tag_run)) / 8 * 8

-- The provided sectors of a new image, or the first fault. The field `provided` is not looked at.
unfoldable pub best_provided_of : Superblock → ℕ → Result ℕ GeomFault
best_provided_of s sectors =
    let g = layout_of s in
    let best = best_provided g sectors in
    ok_unless (size_faults g sectors ++ (best == 0, TooSmall sectors (initial g + g.tag_run + 8)) ∷ []) best

-- What holds of each geometry that is given: an area has whole blocks and room for their tags, and the last block is on
-- the disk of so many sectors.
pub record IsGeometry (g : Geometry) (sectors : ℕ) : Type 0 where
  pub spb : (1 ≤ g.shape.spb) × (g.shape.spb ≤ 8)
  pub tag_size : (1 ≤ g.shape.tag_size) × (g.shape.tag_size ≤ 32)
  pub sections : 1 ≤ g.sections
  pub whole_blocks : g.interleave ≡ g.interleave / g.shape.spb * g.shape.spb
  pub interleave : 8 ≤ g.interleave
  pub tags : g.interleave / g.shape.spb * g.shape.tag_size ≤ 512 * g.tag_run
  pub blocks : 1 ≤ g.blocks
  pub last : data_at g (g.blocks - 1) + g.shape.spb ≤ sectors
  pub device : sectors ≤ 2 ^ 48
  pub journal : journal_sectors g ≤ 2 ^ 20
