-- What is free once all is committed, placed and settled.
use Rattle.std.specs.Prelude.{◌≡◌, ℕ, ◌+◌, ◌-◌, ◌<◌, ◌≤◌, true, List, [], ◌∷◌, length}
use Rattle.image_model.specs.Section.{Entry}
use Rattle.journal_model.specs.Ring.{JournalRing, entries_of, has_room, with_commit, with_settle}
use Rattle.journal_ring.specs.Places.{with_free}

-- A settle frees the oldest section where all its entries are placed, and goes on with the others,
abbrev pub FreedLaw : Type 0
FreedLaw = (ring : JournalRing) (placed : ℕ) (entries : List Entry) (behind : List (List Entry))
    → ring.committed ≡ entries ∷ behind → length entries ≤ placed
    → with_settle placed ring ≡ with_settle (placed - length entries) (with_free ring)

-- and it frees nothing where one is not,
abbrev pub KeptLaw : Type 0
KeptLaw = (ring : JournalRing) (placed : ℕ) (entries : List Entry) (behind : List (List Entry))
    → ring.committed ≡ entries ∷ behind → placed < length entries → with_settle placed ring ≡ ring

-- or where none is committed.
abbrev pub NoneLaw : Type 0
NoneLaw = (ring : JournalRing) (placed : ℕ) → ring.committed ≡ [] → with_settle placed ring ≡ ring

-- The sections that are opened have room in the journal, and the next one lies in it.
pub record HasBounds (ring : JournalRing) : Type 0 where
  pub inside : ring.next < ring.geometry.sections
  pub fits : length ring.opened + length ring.committed ≤ ring.geometry.sections

-- After two commits and a settle of all their entries every section is free, and there is room.
abbrev pub RoomAgainLaw : Type 0
RoomAgainLaw = (ring : JournalRing) (placed : ℕ) → HasBounds ring
    → length (entries_of (with_commit (with_commit ring)).committed) ≤ placed
    → ((with_commit (with_commit ring)).opened ≡ [])
    × ((with_settle placed (with_commit (with_commit ring))).committed ≡ [])
    × (has_room (with_settle placed (with_commit (with_commit ring))) ≡ true)
