-- The places of the entries of the sections that count, in the order of the replay.
use Rattle.std.specs.Prelude.{◌≡◌, ℕ, ◌≤◌, List, [], ◌∷◌}
use Rattle.image_model.specs.declared.entry_place.EntryPlace.{EntryPlace}
use Rattle.image_model.specs.Cells.{entry_places}
use Rattle.image_model.specs.Geometry.{Geometry}
use Rattle.image_model.specs.Walk.{sections_of}

-- Two ranges of sections, each from its first to the one after its last, in a journal of so many.
pub record IsWalk (sections : ℕ) (walk : List (ℕ × ℕ)) : Type 0 where
  pub first : ℕ × ℕ
  pub second : ℕ × ℕ
  pub is : walk ≡ first ∷ second ∷ []
  pub first_order : first.0 ≤ first.1
  pub first_end : first.1 ≤ sections
  pub second_order : second.0 ≤ second.1
  pub second_end : second.1 ≤ sections

-- The places of the entries of these sections, used or not.
abbrev pub places_of : Geometry → List (ℕ × ℕ) → List EntryPlace
places_of g walk = entry_places g (sections_of walk)
