-- Where the entries of a ring stand, by computing.
use Rattle.std.proofs.Common.{◌≡◌, ℕ, false, [], ◌∷◌, refl}
use Rattle.image_model.specs.Geometry.{Geometry}
use Rattle.image_model.specs.Section.{Entry}
use Rattle.journal_model.specs.Ring.{JournalRing}
use Rattle.journal_overlay.specs.Kept.{added}
use Rattle.journal_mode.specs.Journal.{empty_journal, places_in, places_of}

abbrev entry : ℕ → Entry
entry sector = record { sector = sector; bytes = []; tag = [] }

-- Blocks of 8 sectors, and five sections.
abbrev five_sections : Geometry
five_sections = record {
  shape = record { spb = 8; tag_size = 32 };
  sections = 5;
  interleave = 32;
  tag_run = 8;
  blocks = 40;
  log2_region = 15;
}

-- Sections 3 and 4 are committed, 0 is opened, and 1 and 2 are free. Block 2 is written twice.
abbrev round_the_end : JournalRing
round_the_end = record {
  geometry = five_sections;
  next = 0;
  number = 1;
  committed = (entry 16 ∷ entry 24 ∷ []) ∷ (entry 32 ∷ []) ∷ [];
  opened = (entry 40 ∷ entry 16 ∷ []) ∷ [];
  closed = false;
}

-- The entries are numbered on from the one that is told.
places_in-behind_two : places_in five_sections 3 2 (entry 16 ∷ entry 24 ∷ []) ≡
    added 2 (record { section = 3; entry = 2 }) ∷ added 3 (record { section = 3; entry = 3 }) ∷ []
places_in-behind_two = refl

-- The oldest section comes first, and the first one behind the last.
places_of-round_the_end : places_of round_the_end ≡
    added 2 (record { section = 3; entry = 0 }) ∷ added 3 (record { section = 3; entry = 1 })
    ∷ added 4 (record { section = 4; entry = 0 })
    ∷ added 5 (record { section = 0; entry = 0 }) ∷ added 2 (record { section = 0; entry = 1 }) ∷ []
places_of-round_the_end = refl

places_of-empty : places_of (empty_journal five_sections 3 1).ring ≡ []
places_of-empty = refl
