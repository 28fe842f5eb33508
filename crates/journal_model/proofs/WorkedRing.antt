-- Values of a ring, by hand: three sections of eight entries each, of which writing goes on at section 1 with number 3.
use Rattle.std.proofs.Common.{◌≡◌, Bool, true, false, refl, List, [], ◌∷◌}
use Rattle.image_model.specs.Geometry.{Geometry, entry_size, entries_per_sector, section_entries}
use Rattle.image_model.specs.Section.{Entry}
use Rattle.journal_model.specs.Ring.{JournalRing, empty_ring, has_room, with_put, next_batch, opened_at, with_commit, with_settle}

module _ (g : Geometry) (a b c e : Entry) where
  -- An entry of one sector with a tag of 240 bytes takes 256 bytes, so that each of the 8 metadata sectors has one.
  abbrev three_sections : Geometry
  three_sections = record g { sections = 3; shape = record { spb = 1; tag_size = 240 } }

  abbrev ring_with : List (List Entry) → List (List Entry) → Bool → JournalRing
  ring_with committed opened closed = record { geometry = three_sections; next = 1; number = 3; committed = committed; opened = opened; closed = closed }

  abbrev full : List Entry
  full = a ∷ b ∷ a ∷ b ∷ a ∷ b ∷ a ∷ b ∷ []

  -- An entry goes into the open section, and else into the next one,
  with_put-empty : with_put a (empty_ring three_sections 1 3) ≡ ring_with [] ((a ∷ []) ∷ []) false
  with_put-empty = refl

  with_put-open : with_put b (ring_with [] ((a ∷ []) ∷ []) false) ≡ ring_with [] ((a ∷ b ∷ []) ∷ []) false
  unfolding section_entries entries_per_sector entry_size
  with_put-open = refl

  with_put-full : with_put c (ring_with [] (full ∷ []) false) ≡ ring_with [] (full ∷ (c ∷ []) ∷ []) false
  unfolding section_entries entries_per_sector entry_size
  with_put-full = refl

  with_put-closed : with_put b (ring_with [] ((a ∷ []) ∷ []) true) ≡ ring_with [] ((a ∷ []) ∷ (b ∷ []) ∷ []) false
  with_put-closed = refl

  -- where one of the three is free.
  has_room-none : has_room (ring_with ((a ∷ []) ∷ (b ∷ []) ∷ []) (full ∷ []) false) ≡ false
  unfolding section_entries entries_per_sector entry_size
  has_room-none = refl

  has_room-open : has_room (ring_with ((a ∷ []) ∷ (b ∷ []) ∷ []) ((c ∷ []) ∷ []) false) ≡ true
  unfolding section_entries entries_per_sector entry_size
  has_room-open = refl

  -- A batch ends at the last section: of three sections from section 1 on it has two.
  next_batch-end : next_batch (ring_with [] ((a ∷ []) ∷ (b ∷ []) ∷ (c ∷ []) ∷ []) false) ≡ 2
  next_batch-end = refl

  opened_at-two : opened_at (ring_with [] ((a ∷ []) ∷ (b ∷ []) ∷ (c ∷ []) ∷ []) false) 2 ≡ b ∷ []
  opened_at-two = refl

  -- Behind the last section writing goes on at the first, with the number after 3, which is 0.
  with_commit-end : with_commit (ring_with [] ((a ∷ []) ∷ (b ∷ []) ∷ (c ∷ []) ∷ []) false)
      ≡ record { geometry = three_sections; next = 0; number = 0; committed = (a ∷ []) ∷ (b ∷ []) ∷ []; opened = (c ∷ []) ∷ []; closed = true }
  with_commit-end = refl

  with_commit-inside : with_commit (ring_with ((a ∷ []) ∷ []) ((b ∷ c ∷ []) ∷ []) false)
      ≡ record { geometry = three_sections; next = 2; number = 3; committed = (a ∷ []) ∷ (b ∷ c ∷ []) ∷ []; opened = []; closed = true }
  with_commit-inside = refl

  -- With two of three entries placed the first section is freed.
  with_settle-first : with_settle 2 (ring_with ((a ∷ []) ∷ (b ∷ c ∷ []) ∷ []) ((e ∷ []) ∷ []) false) ≡ ring_with ((b ∷ c ∷ []) ∷ []) ((e ∷ []) ∷ []) false
  with_settle-first = refl
