-- A ring of which the oldest sections were freed.
use Rattle.std.specs.Prelude.{◌≡◌, ℕ, ◌≤◌, List, length}
use Rattle.journal_model.specs.Ring.{JournalRing}
use Rattle.journal_overlay.specs.declared.place.Added.{Added}
use Rattle.journal_ring.specs.RoomLaws.{HasBounds}
use Rattle.replay.specs.Placement.{without}
use Rattle.journal_mode.specs.Journal.{places_of}

-- So many of its committed sections were.
pub record HasFreed (old : JournalRing) (count : ℕ) (new : JournalRing) : Type 0 where
  pub bounds : HasBounds old
  pub low : count ≤ length old.committed
  pub left : new ≡ without count old

-- Where the ring is left of one whose oldest section was told, the places that are kept are those of its entries.
abbrev pub DropsFreed : {A : Type 0} → (told : A) → (oldest : JournalRing → A) → JournalRing
    → (before after : List Added) → Type 0
DropsFreed told oldest ring before after = (old : JournalRing) (count : ℕ) → HasFreed old count ring
    → told ≡ oldest old → before ≡ places_of old → after ≡ places_of ring
