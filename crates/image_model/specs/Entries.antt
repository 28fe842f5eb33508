-- The entries that a section holds, which bytes stand for them, and the number that its sectors bear.
use Rattle.std.specs.Prelude.{◌≡◌, ◌⊎◌, ℕ, ◌+◌, ◌*◌, ◌%◌, ◌<◌, ◌≤◌, List, length, map, slice_index, slice_index_or, Option, Some, None}
use Rattle.std.specs.List.{range_with_len}
use Rattle.disk_model.specs.Disk.{sector_in}
use Rattle.image_model.specs.Geometry.{Shape, entry_size, section_entries, section_sectors}
use Rattle.image_model.specs.CommitId.{commit_number}
use Rattle.image_model.specs.Section.{Entry, entry_from, entry_at}

-- The entries of a section, by its bytes: for each n the entry, and none where it is unused.
abbrev pub entries_of : Shape → List ℕ → List (Option Entry)
entries_of shape bytes = map (entry_at shape bytes) (range_with_len 0 (section_entries shape))

-- The byte is one of so many from byte `from` on.
abbrev pub IsWithin : ℕ → ℕ → ℕ → Type 0
IsWithin from size at = (from ≤ at) × (at < from + size)

-- The byte stands for entry n. A used entry has its sector, the last 8 bytes of each of its block's sectors and its tag, and
-- its data sectors; an unused one has the higher half of its sector's number.
abbrev pub IsNamedBy : Shape → ℕ → Option Entry → ℕ → Type 0
IsNamedBy shape n (Some entry) at =
    IsWithin (entry_from shape n) (8 + 8 * shape.spb + shape.tag_size) at
    ⊎ IsWithin (512 * (8 + n * shape.spb)) (512 * shape.spb) at
IsNamedBy shape n None at = IsWithin (entry_from shape n + 4) 4 at

-- The byte is one of a commit id, or stands for an entry.
abbrev pub IsNamed : Shape → List (Option Entry) → ℕ → Type 0
IsNamed shape entries at =
    (504 ≤ at % 512)
    ⊎ ((n : ℕ) × (n < length entries) × IsNamedBy shape n (slice_index_or entries n None) at)

-- The section has these entries, and each byte that nothing names is zero.
pub record HoldsEntries (shape : Shape) (entries : List (Option Entry)) (bytes : List ℕ) : Type 0 where
  pub size : length bytes ≡ 512 * section_sectors shape
  pub entries_are : entries_of shape bytes ≡ entries
  pub zeros : (at : ℕ) → (IsNamed shape entries at → ⊥) → slice_index bytes at ≡ 0

-- Each sector of section i bears this commit number.
abbrev pub BearsNumber : Shape → ℕ → ℕ → List ℕ → Type 0
BearsNumber shape i number bytes =
    (j : ℕ) → j < section_sectors shape → commit_number i j (sector_in bytes j) ≡ Some number

-- The byte is entry n's own: one of its place in a metadata sector, or one of its data sectors that is of no commit id.
abbrev pub IsOfEntry : Shape → ℕ → ℕ → Type 0
IsOfEntry shape n at =
    IsWithin (entry_from shape n) (entry_size shape) at
    ⊎ (IsWithin (512 * (8 + n * shape.spb)) (512 * shape.spb) at × (at % 512 < 504))
