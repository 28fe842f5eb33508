-- What stands in the place of the journal of a new image: empty sections, or a bitmap and empty sectors behind it.
-- Source: Linux, drivers/md/dm-integrity.c, init_journal and block_bitmap_op. Own: what stands behind the bitmap.
use Rattle.std.specs.Prelude.{◌≡◌, ℕ, ◌+◌, ◌*◌, ◌<◌, ◌≤◌, Bool, true, false, if◌then◌else◌, List, Some, None, replicate}
use Rattle.disk_model.specs.Disk.{Image, sector_in}
use Rattle.image_model.specs.declared.flags.TheConstants.{DIRTY_BITMAP, RECALCULATING}
use Rattle.image_model.specs.Cells.{section_bytes}
use Rattle.image_model.specs.Geometry.{Geometry, Shape, bitmap_sectors, regions, section_at, section_entries, section_sectors}
use Rattle.image_model.specs.Superblock.{has_flag}
use Rattle.image_format.specs.declared.reading.ImageFormat.{ImageFormat}
use Rattle.place_model.specs.Journal.{numbers_on}
use Rattle.image_model.specs.Entries.{BearsNumber, HoldsEntries}
use Rattle.formatting_model.specs.Bits.{HasBits}

-- ---- a journal

-- A section of the image has no used entry, each byte that nothing names is zero, and each sector
-- bears commit number 0.
pub record HasEmptySection (g : Geometry) (image : Image) (section : ℕ) : Type 0 where
  pub entries : HoldsEntries g.shape (replicate (section_entries g.shape) None)
      (section_bytes g image section)
  pub numbers : (j : ℕ) → j < section_sectors g.shape → numbers_on g image section j ≡ Some 0

-- All sections are such.
abbrev pub HasEmptyJournal : Geometry → Image → Type 0
HasEmptyJournal g image = (section : ℕ) → section < g.sections → HasEmptySection g image section

-- ---- a bitmap

-- The bytes are such a section.
pub record IsEmptySection (shape : Shape) (section : ℕ) (bytes : List ℕ) : Type 0 where
  pub entries : HoldsEntries shape (replicate (section_entries shape) None) bytes
  pub numbers : BearsNumber shape section 0 bytes

-- The sectors of a section of the image are those of such bytes, but for so many first sectors of the journal.
pub record HasEmptyRest (g : Geometry) (first : ℕ) (image : Image) (section : ℕ) : Type 0 where
  pub bytes : List ℕ
  pub is_empty : IsEmptySection g.shape section bytes
  pub each : (j : ℕ) → j < section_sectors g.shape → first ≤ section * section_sectors g.shape + j
      → image (section_at g section + j) ≡ sector_in bytes j

-- So it is of the first sections, but for those that end before.
abbrev pub HasEmptyRests : Geometry → (first count : ℕ) → Image → Type 0
HasEmptyRests g first count image = (section : ℕ) → section < count
    → first < section * section_sectors g.shape + section_sectors g.shape → HasEmptyRest g first image section

-- Behind so many sectors the journal has those of empty sections.
abbrev pub IsEmptyBehind : Geometry → (first : ℕ) → Image → Type 0
IsEmptyBehind g first = HasEmptyRests g first g.sections

-- So many first bits of the bitmap are set and no other, not even one that no region has, and all behind it is empty.
pub record HasBitmap (set : ℕ) (g : Geometry) (image : Image) : Type 0 where
  pub bits : HasBits set 8 (bitmap_sectors g) image
  pub behind : IsEmptyBehind g (bitmap_sectors g) image

-- ---- either

-- The image is to have a bitmap.
abbrev pub has_bitmap : ImageFormat → Bool
has_bitmap format = has_flag DIRTY_BITMAP format.fields.flags

-- The first sectors of the journal that a bitmap takes, where there is one.
abbrev pub bitmap_taken : (bitmap : Bool) → Geometry → ℕ
bitmap_taken false g = 0
bitmap_taken true g = bitmap_sectors g

-- How many regions have their bit set in a bitmap of the image: all where tags are to be recalculated, and else none.
abbrev pub regions_set : ImageFormat → ℕ
regions_set format = if has_flag RECALCULATING format.fields.flags then regions format.geometry else 0

-- An empty journal, or a bitmap with so many bits set.
abbrev pub HasJournalBy : (bitmap : Bool) → (set : ℕ) → Geometry → Image → Type 0
HasJournalBy false set g image = HasEmptyJournal g image
HasJournalBy true set g image = HasBitmap set g image

-- The image has that of the two which its fields tell.
abbrev pub HasJournalPlace : ImageFormat → Image → Type 0
HasJournalPlace format = HasJournalBy (has_bitmap format) (regions_set format) format.geometry
