-- The sections of a journal in memory: their bytes, and the entries in them.
use Rattle.std.specs.Prelude.{◌≡◌, ◌≢◌, ℕ, ◌+◌, ◌-◌, ◌*◌, ◌≤◌, ltb, if◌then◌else◌, List, ◌++◌, length, map, replicate, Option, Some, None}
use Rattle.std.specs.List.{filter_map}
use Rattle.image_model.specs.Geometry.{Shape, section_entries, section_sectors}
use Rattle.image_model.specs.Section.{Entry, section_bytes}
use Rattle.image_model.specs.Entries.{entries_of, HoldsEntries}

-- The section that lies here in the ring, of so many: behind the last one comes the first.
abbrev pub wrap : ℕ → ℕ → ℕ
wrap sections at = if ltb at sections then at else at - sections

-- The used entries of a section, in order.
abbrev pub used_in : Shape → List ℕ → List Entry
used_in shape bytes = filter_map (λ entry. entry) (entries_of shape bytes)

-- So many entries, of which the first are used and the others unused.
abbrev pub filled : ℕ → List Entry → List (Option Entry)
filled size used = map (λ entry. Some entry) used ++ replicate (size - length used) None

-- The section has so many entries, at its beginning, and each byte that nothing names is zero.
pub record IsHeld (shape : Shape) (count : ℕ) (bytes : List ℕ) : Type 0 where
  pub holds : HoldsEntries shape (filled (section_entries shape) (used_in shape bytes)) bytes
  pub count_is : length (used_in shape bytes) ≡ count
  pub low : count ≤ section_entries shape

-- No bytes change but those of section i.
pub record ChangesSection (shape : Shape) (i : ℕ) (old new : List ℕ) : Type 0 where
  pub size : length new ≡ length old
  pub others : (j : ℕ) → j ≢ i → 512 * ((j + 1) * section_sectors shape) ≤ length old
      → section_bytes shape new j ≡ section_bytes shape old j
