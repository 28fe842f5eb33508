-- What a contract sees of an overlay: the places that it keeps.
use Rattle.std.specs.Prelude.{ℕ, ◌==◌, Bool, List, [], ◌∷◌, if◌then◌else◌, Option, Some, None}
use Rattle.std.specs.Option.{option_or}
use Rattle.image_model.specs.declared.entry_place.EntryPlace.{EntryPlace}
use Rattle.journal_overlay.specs.declared.place.Added.{Added}

-- How many places can be kept, and those that are, in order of adding: each was added and its section was not dropped
-- since.
pub record Places : Type 0 where
  pub capacity : ℕ
  pub kept : List Added

-- The place was added for the block.
abbrev pub added : ℕ → EntryPlace → Added
added block place = record { block = block; place = place }

-- The place, if it was added for this block.
abbrev pub place_for : ℕ → Added → Option EntryPlace
place_for block a = if a.block == block then Some a.place else None

-- The newest place of a block: of some places the last that was added for it, if there is one.
abbrev pub newest_of : ℕ → List Added → Option EntryPlace
newest_of block [] = None
newest_of block (a ∷ places) = option_or (newest_of block places) (place_for block a)

abbrev pub is_in : ℕ → Added → Bool
is_in section a = a.place.section == section
