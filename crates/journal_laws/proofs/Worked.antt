-- Values of the definitions, by hand: a ring of three sections, of which writing goes on at section 1.
use Rattle.std.proofs.Common.{◌≡◌, refl, Some, [], ◌∷◌}
use Rattle.image_model.specs.Section.{Entry}
use Rattle.device_model.specs.Journal.{Open, Closed, Committed, commit}
use Rattle.journal_model.specs.JournaledDisk.{JournaledDisk}
use Rattle.journal_model.specs.Ring.{JournalRing}
use Rattle.journal_laws.specs.Device.{freed_count, placed_count}

-- A batch ends at the last section: of three opened sections it has two.
commit-end : commit 3 (record { next = 1; sections = record { blocks = 4 ∷ []; placed = 0; state = Open } ∷ record { blocks = 5 ∷ []; placed = 0; state = Open } ∷ record { blocks = 6 ∷ []; placed = 0; state = Open } ∷ [] })
    ≡ Some (record { next = 1; sections = record { blocks = 4 ∷ []; placed = 0; state = Committed } ∷ record { blocks = 5 ∷ []; placed = 0; state = Committed } ∷ record { blocks = 6 ∷ []; placed = 0; state = Closed } ∷ [] })
commit-end = refl

module _ (d : JournaledDisk) (r : JournalRing) (a b c : Entry) where
  -- Of three entries two are placed, and the first stands in no section that is kept.
  abbrev two_placed : JournaledDisk
  two_placed = record d { entries = a ∷ b ∷ c ∷ []; placed = 2 }

  abbrev two_kept : JournalRing
  two_kept = record r { committed = (b ∷ c ∷ []) ∷ [] }

  freed_count-two : freed_count two_placed two_kept ≡ 1
  freed_count-two = refl

  placed_count-two : placed_count two_placed two_kept ≡ 1
  placed_count-two = refl
