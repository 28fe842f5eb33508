-- A section in pieces: its metadata sectors, and the data sectors of one entry.
use Rattle.std.specs.Prelude.{◌≡◌, ℕ, ◌+◌, ◌*◌, ◌%◌, ◌≤◌, List, ◌++◌, length, take, drop, slice_index, slice_set, Option, Some}
use Rattle.std.specs.List.{concat}
use Rattle.image_model.specs.Geometry.{Shape, section_sectors}
use Rattle.image_model.specs.Section.{Entry, parts_of}
use Rattle.image_model.specs.Entries.{entries_of, HoldsEntries, IsOfEntry}

-- The bytes with others in their place from byte `at` on.
abbrev pub with_piece : ℕ → List ℕ → List ℕ → List ℕ
with_piece at new bytes = take at bytes ++ (new ++ drop (at + length new) bytes)

-- The section has these metadata sectors, and these data sectors of entry n.
pub record HasPieces (shape : Shape) (n : ℕ) (meta parts bytes : List ℕ) : Type 0 where
  pub size : length bytes ≡ 512 * section_sectors shape
  pub meta_are : take 4096 bytes ≡ meta
  pub parts_are : parts_of shape bytes n ≡ parts

-- The section with these metadata sectors and these data sectors of entry n in the place of its own.
abbrev pub with_pieces : Shape → ℕ → List ℕ → List ℕ → List ℕ → List ℕ
with_pieces shape n meta parts bytes = meta ++ with_piece (512 * (n * shape.spb)) parts (drop 4096 bytes)

-- The section has this entry for entry n, whatever stood there, and no stale byte of it. Each byte that is not the entry's own is
-- as it was, and so is each commit id.
pub record PutsEntry (shape : Shape) (n : ℕ) (entry : Entry) (old new : List ℕ) : Type 0 where
  pub entries : entries_of shape new ≡ slice_set (entries_of shape old) n (Some entry)
  pub holds : (entries : List (Option Entry)) → HoldsEntries shape entries old
      → HoldsEntries shape (slice_set entries n (Some entry)) new
  pub others : (at : ℕ) → (IsOfEntry shape n at → ⊥) → slice_index new at ≡ slice_index old at
  pub ids : (at : ℕ) → 504 ≤ at % 512 → slice_index new at ≡ slice_index old at

-- The bytes of a section by its pieces: the metadata sectors, and the data sectors of each entry in order.
abbrev pub joined : List ℕ → List (List ℕ) → List ℕ
joined meta parts = meta ++ concat parts
