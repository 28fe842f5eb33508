-- Used entries of a journal, sector by sector.
use Rattle.std.specs.Prelude.{ℕ, ◌+◌, ◌*◌, ◌-◌, ◌%◌, ◌^◌, ◌==◌, nat_lt, Bool, not, ◌&&◌, List}
use Rattle.disk_model.specs.Disk.{Image}
use Rattle.image_model.specs.Below.{any_below}
use Rattle.image_model.specs.Geometry.{Geometry, Shape, entries_per_sector, entry_size, section_sectors}
use Rattle.image_model.specs.Grid.{is_zero_sector}
use Rattle.image_model.specs.Sectors.{number_in}

-- Entry m of those that stand in a metadata sector with these bytes is used.
abbrev pub is_used_in : Shape → List ℕ → ℕ → Bool
is_used_in shape bytes m = not (number_in bytes (m * entry_size shape + 4) 4 == 2 ^ 32 - 1)

-- Some of them is.
abbrev pub has_used : Shape → List ℕ → Bool
has_used shape bytes = any_below (entries_per_sector shape) (is_used_in shape bytes)

-- A used entry stands in sector k of a journal, which has these bytes and is no zero one among the first `bitmap`. Of each
-- section the first 8 sectors have entries.
abbrev pub has_used_outside : (bitmap : ℕ) → Shape → (k : ℕ) → List ℕ → Bool
has_used_outside bitmap shape k bytes =
    nat_lt (k % section_sectors shape) 8 && (not (nat_lt k bitmap && is_zero_sector bytes) && has_used shape bytes)

-- So it is in sector k of an image's journal.
abbrev pub is_used_outside_at : (bitmap : ℕ) → Geometry → Image → (k : ℕ) → Bool
is_used_outside_at bitmap g image k = has_used_outside bitmap g.shape k (image (8 + k))
