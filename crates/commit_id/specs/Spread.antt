-- What the first sections of a journal show to the scan.
use Rattle.std.specs.Prelude.{◌≡◌, ℕ, ◌<◌, nat_lt, Bool, slice_index}
use Rattle.image_model.specs.Scan.{Grid, numbers_of}
use Rattle.image_model.specs.Walk.{reach, whole_sections}
use Rattle.commit_id.specs.declared.spread.Spread.{Spread}

-- How far each number reaches over the first so many sections, and how many from 0 on are wholly of it.
pub record IsSpread (grid : Grid) (sections : ℕ) (spread : Spread) : Type 0 where
  pub reach : (number : ℕ) → number < 4 → slice_index spread.reach number ≡ reach sections grid.sectors (numbers_of grid) number
  pub whole : (number : ℕ) → number < 4 → slice_index spread.whole number ≡ whole_sections sections grid.sectors (numbers_of grid) number

-- The number occurs.
abbrev pub has_reached : Spread → ℕ → Bool
has_reached spread number = nat_lt 0 (slice_index spread.reach number)
