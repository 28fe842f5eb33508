-- The parts of an erasure, and the sectors that each writes.
-- Own: the sectors of the newest number come last.
use Rattle.std.specs.Prelude.{◌≡◌, ℕ, ◌+◌, ◌-◌, ◌<◌, ◌≤◌, Bool, true, not, ◌&&◌, if◌then◌else◌, List, [], ◌∷◌, ◌++◌}
use Rattle.disk_model.specs.Disk.{Content, is_within, sector_in}
use Rattle.journal_erasure.specs.declared.newest.NewestSectors.{NewestSectors}
use Rattle.journal_erasure.specs.declared.part.Part.{Part}
use Rattle.journal_erasure.specs.declared.part.Part.TheVariants.{Others, Newest}
use Rattle.journal_erasure.specs.Newest.{is_newest}

-- The part that has all other sectors.
abbrev pub other_part : Part → Part
other_part Others = Newest
other_part Newest = Others

-- The part has sector k of the journal.
abbrev pub is_of_part : NewestSectors → Part → ℕ → Bool
is_of_part newest Others k = not (is_newest newest k)
is_of_part newest Newest k = is_newest newest k

-- Of the sectors that lie behind sector `at` of the disk, those from `from` on and before `to` which are chosen have got
-- these bytes as candidates.
abbrev pub with_chosen : (chosen : ℕ → Bool) → (at from to : ℕ) → List ℕ → Content → Content
with_chosen chosen at from to bytes c sector =
    if is_within (at + from) (to - from) sector && chosen (sector - at)
    then c sector ++ sector_in bytes (sector - at) ∷ []
    else c sector

-- The candidate that this brings to a sector.
pub record IsOfChosen (chosen : ℕ → Bool) (at from to : ℕ) (bytes : List ℕ) (sector : ℕ) (x : List ℕ) : Type 0 where
  pub place : ℕ
  pub begins : from ≤ place
  pub ends : place < to
  pub is : sector ≡ at + place
  pub marked : chosen place ≡ true
  pub holds : x ≡ sector_in bytes place
