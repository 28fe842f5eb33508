-- Block 5 in sections 1, 2 and 3, and block 7 in section 2.
use Rattle.std.proofs.Common.{◌≡◌, ℕ, not, List, [], ◌∷◌, filter, None, Some, refl}
use Rattle.journal_overlay.specs.Kept.{added, newest_of, is_in}
use Rattle.journal_overlay.specs.declared.place.Added.{Added}
use Rattle.image_model.specs.declared.entry_place.EntryPlace.{EntryPlace}

abbrev place : (section entry : ℕ) → EntryPlace
place section entry = record { section = section; entry = entry }

abbrev four_places : List Added
four_places = added 5 (place 1 0) ∷ added 5 (place 2 0) ∷ added 7 (place 2 1) ∷ added 5 (place 3 0) ∷ []

-- The last that was added is the newest.
newest_of-last_added : newest_of 5 four_places ≡ Some (place 3 0)
newest_of-last_added = refl

-- Without its section an older one is.
newest_of-section_dropped : newest_of 5 (filter (λ a. not (is_in 3 a)) four_places) ≡ Some (place 2 0)
newest_of-section_dropped = refl

-- A section in the middle takes out its places alone.
kept-without_the_middle : filter (λ a. not (is_in 2 a)) four_places ≡ added 5 (place 1 0) ∷ added 5 (place 3 0) ∷ []
kept-without_the_middle = refl

-- No place was added for this block.
newest_of-never_added : newest_of 6 four_places ≡ None
newest_of-never_added = refl
