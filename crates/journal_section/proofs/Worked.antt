-- A small section, by computing: blocks of one sector, and tags of 32 bytes.
use Rattle.std.proofs.Common.{◌≡◌, ℕ, refl, Some, None, List, ◌∷◌, ◌++◌, replicate}
use Rattle.std.specs.List.{repeat}
use Rattle.disk_model.specs.Disk.{sector_in}
use Rattle.image_model.specs.CommitId.{commit_id, commit_number, number_of, id_in}
use Rattle.image_model.specs.Geometry.{Shape, entry_size, entries_per_sector, section_entries}
use Rattle.image_model.specs.Section.{is_used, entry_at}
use Rattle.image_model.specs.Sectors.{bytes_of}
use Rattle.image_model.specs.Entries.{entries_of}
use Rattle.journal_section.specs.Pieces.{with_pieces}

abbrev shape : Shape
shape = record { spb = 1; tag_size = 32 }

-- An unused entry as it is written: `00000000ffffffff`, and zeros up to 48 bytes.
abbrev unused : List ℕ
unused = replicate 4 0 ++ replicate 4 0xff ++ replicate 40 0

-- The entry of block 5 with 512 bytes aa: `0500000000000000`, eight bytes aa, and 32 of a tag.
abbrev used : List ℕ
used = 5 ∷ replicate 7 0 ++ replicate 8 0xaa ++ replicate 32 0x7e

-- The metadata sectors of section 0 under number 1: a sector has 10 entries and 24 zero bytes before its commit id. Sectors 1 to
-- 7 have that of sector 0 here, since no entry looks at it.
abbrev meta_with : List ℕ → List ℕ
meta_with first =
    (first ++ repeat 9 unused ++ replicate 24 0 ++ replicate 8 0x22)
    ++ repeat 7 (repeat 10 unused ++ replicate 24 0 ++ replicate 8 0x22)

-- The data sector of entry 0, with the commit id of sector 8.
abbrev part_of : ℕ → List ℕ
part_of byte = replicate 504 byte ++ 0x2a ∷ replicate 7 0x22

-- The first sectors of the section without an entry.
abbrev empty : List ℕ
empty = meta_with unused ++ part_of 0

-- A put of its pieces gives the first sectors of the section with the entry.
with_pieces-first : with_pieces shape 0 (meta_with used) (part_of 0xaa) empty ≡ meta_with used ++ part_of 0xaa
with_pieces-first = refl

-- Its 80 entries: the one that was put, and no other.
entries_of-first : entries_of shape (meta_with used ++ part_of 0xaa)
    ≡ Some (record { sector = 5; bytes = replicate 512 0xaa; tag = replicate 32 0x7e }) ∷ replicate 79 None
unfolding entry_at is_used entry_size entries_per_sector section_entries
entries_of-first = refl

-- Before, it had none.
entries_of-empty : entries_of shape empty ≡ replicate 80 None
unfolding entry_at is_used entry_size entries_per_sector section_entries
entries_of-empty = refl

-- The commit id of section 0, sector 8, number 1: `2a22222222222222`.
commit_id-data_sector : bytes_of (commit_id 0 8 1) 8 ≡ 0x2a ∷ replicate 7 0x22
commit_id-data_sector = refl

-- The data sector bears number 1.
commit_number-data_sector : commit_number 0 8 (sector_in empty 8) ≡ Some 1
unfolding number_of id_in
commit_number-data_sector = refl
