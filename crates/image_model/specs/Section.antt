-- The entries of a journal section, by its bytes: 8 metadata sectors, then the data sectors of each
-- entry. Source: Linux, drivers/md/dm-integrity.c, struct journal_entry and access_journal_entry.
use Rattle.std.specs.Prelude.{ℕ, ◌+◌, ◌*◌, ◌-◌, ◌/◌, ◌%◌, ◌^◌, ◌==◌, Bool, not, if◌then◌else◌, List, ◌++◌, Option, Some, None, flat_map}
use Rattle.std.specs.List.{range_with_len}
use Rattle.image_model.specs.Geometry.{Shape, entry_size, section_sectors}
use Rattle.image_model.specs.Sectors.{piece, number_in}

-- A used entry: the first sector of its block, the block's bytes, and their tag.
pub record Entry : Type 0 where
  pub sector : ℕ
  pub bytes : List ℕ
  pub tag : List ℕ

-- The bytes of section i.
abbrev pub section_bytes : Shape → List ℕ → ℕ → List ℕ
section_bytes shape bytes i = piece bytes (512 * (i * section_sectors shape)) (512 * section_sectors shape)

-- The byte of a section where entry n begins: it stands in metadata sector n mod 8.
abbrev pub entry_from : Shape → ℕ → ℕ
entry_from shape n = 512 * (n % 8) + n / 8 * entry_size shape

-- An entry is used but where the higher half of its sector's number is all ones.
unfoldable pub is_used : Shape → List ℕ → ℕ → Bool
is_used shape bytes n = not (number_in bytes (entry_from shape n + 4) 4 == 2 ^ 32 - 1)

-- The data sectors of entry n.
abbrev pub parts_of : Shape → List ℕ → ℕ → List ℕ
parts_of shape bytes n = piece bytes (512 * (8 + n * shape.spb)) (512 * shape.spb)

-- The bytes of an entry's block: 504 from each of its data sectors, and the last 8 from the entry.
abbrev pub block_in : Shape → List ℕ → List ℕ → ℕ → List ℕ
block_in shape bytes parts n =
    flat_map (λ k. piece parts (512 * k) 504 ++ piece bytes (entry_from shape n + 8 + 8 * k) 8)
    (range_with_len 0 shape.spb)

-- Entry n of a section, and none where it is unused.
unfoldable pub entry_at : Shape → List ℕ → ℕ → Option Entry
entry_at shape bytes n =
    if is_used shape bytes n
    then Some (record {
      sector = number_in bytes (entry_from shape n) 8;
      bytes = block_in shape bytes (parts_of shape bytes n) n;
      tag = piece bytes (entry_from shape n + 8 + 8 * shape.spb) shape.tag_size;
    })
    else None
