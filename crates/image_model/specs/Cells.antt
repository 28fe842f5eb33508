-- The cells of an image: what each block reads as, and the tag that is stored for it.
-- Own: the entries of the walk count, and a block that awaits has the tag of its bytes.
use Rattle.std.specs.Prelude.{ℕ, ◌*◌, ◌==◌, if◌then◌else◌, Option, Some, None, option_map, unwrap_or, find, Result, Ok, Err, List, [], reverse, map, flat_map, filter_map}
use Rattle.std.specs.List.{range_with_len}
use Rattle.disk_model.specs.Disk.{Image}
use Rattle.image_model.specs.declared.entry_place.EntryPlace.{EntryPlace}
use Rattle.image_model.specs.declared.flags.TheConstants.{DIRTY_BITMAP, FIXED_HMAC}
use Rattle.image_model.specs.Bitmap.{awaits}
use Rattle.image_model.specs.Geometry.{Geometry, section_at, section_sectors, section_entries, data_at, tag_at}
use Rattle.image_model.specs.Grid.{walk_of}
use Rattle.image_model.specs.Section.{Entry, entry_at}
use Rattle.image_model.specs.Sectors.{piece, bytes_at}
use Rattle.image_model.specs.Superblock.{Superblock, has_flag}
use Rattle.image_model.specs.Tag.{tag_of}
use Rattle.image_model.specs.declared.scan_fault.ScanFault.{ScanFault}
use Rattle.image_model.specs.Walk.{sections_of}
use Rattle.image_model.specs.declared.journal_plan.Plan.{Plan}

-- The bytes of a block and a tag.
pub record Cell : Type 0 where
  pub bytes : List ℕ
  pub tag : List ℕ

-- The salt of an image's tags, if they have one.
-- Source: Linux, drivers/md/dm-integrity.c, integrity_sector_checksum.
abbrev pub salt_of : Superblock → Option (List ℕ)
salt_of s = if has_flag FIXED_HMAC s.flags then Some s.salt else None

-- What stands where the layout puts block b, whatever journal, bitmap and flags say. A tag may straddle
-- two sectors.
unfoldable pub placed_cells_of : Geometry → Image → ℕ → Cell
placed_cells_of g image b = record {
  bytes = bytes_at image (data_at g b) g.shape.spb;
  tag = piece (bytes_at image (tag_at g b).sector 2) (tag_at g b).byte g.shape.tag_size;
}

-- ---- the replayed entries

-- The bytes of a section.
abbrev pub section_bytes : Geometry → Image → ℕ → List ℕ
section_bytes g image section = bytes_at image (section_at g section) (section_sectors g.shape)

-- The entry at a place, and none where it is unused.
abbrev pub entry_of : Geometry → Image → EntryPlace → Option Entry
entry_of g image place = entry_at g.shape (section_bytes g image place.section) place.entry

-- An entry of the journal, by its section and its number in that.
abbrev pub entry_place : (section entry : ℕ) → EntryPlace
entry_place section entry = record { section = section; entry = entry }

-- The places of the entries of a section, in order,
abbrev pub places_in : (entries section : ℕ) → List EntryPlace
places_in entries section = map (entry_place section) (range_with_len 0 entries)

-- and of some.
abbrev pub entry_places : Geometry → List ℕ → List EntryPlace
entry_places g sections = flat_map (places_in (section_entries g.shape)) sections

-- The sections that count, and none where the journal is refused.
abbrev pub counted_sections : Result Plan ScanFault → List ℕ
counted_sections (Ok plan) = sections_of plan.walk
counted_sections (Err fault) = []

-- The used entries of the walk's sections, in its order.
unfoldable pub replayed_entries : Geometry → Image → List Entry
replayed_entries g image =
    filter_map (entry_of g image) (entry_places g (counted_sections (walk_of g image)))

-- ---- the cells

-- The entries that count: with a bitmap there is no journal.
abbrev pub counted_entries : Superblock → Geometry → Image → List Entry
counted_entries s g image = if has_flag DIRTY_BITMAP s.flags then [] else replayed_entries g image

-- The last of some entries that is of block b.
abbrev pub last_entry : Geometry → List Entry → ℕ → Option Entry
last_entry g entries b = find (λ entry. entry.sector == b * g.shape.spb) (reverse entries)

-- The tag of a block under a key and with a salt, if there are such, by its first sector.
abbrev pub block_tag : Option (List ℕ) → Option (List ℕ) → Geometry → ℕ → List ℕ → List ℕ
block_tag key salt g sector bytes = tag_of key salt g.shape.tag_size sector bytes

-- The placed cell, with the tag of its bytes where the block awaits it.
abbrev pub recalculated_cell : Option (List ℕ) → Superblock → Geometry → Image → ℕ → Cell
recalculated_cell key s g image b =
    let placed = placed_cells_of g image b in
    let tag = block_tag key (salt_of s) g (b * g.shape.spb) placed.bytes in
    if awaits s g image b then record placed { tag = tag } else placed

-- The cell of a block: its last entry that counts, and else what is placed, with the tag of its bytes
-- where it awaits that.
unfoldable pub cells_of : Option (List ℕ) → Superblock → Geometry → Image → ℕ → Cell
cells_of key s g image b =
    let last = last_entry g (counted_entries s g image) b in
    unwrap_or (option_map (λ entry. record { bytes = entry.bytes; tag = entry.tag }) last)
    (recalculated_cell key s g image b)
