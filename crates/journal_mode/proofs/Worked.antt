-- Values of the definitions, told from outside.
use Rattle.std.proofs.Common.{◌≡◌, ℕ, false, [], ◌∷◌, refl}
use Rattle.image_model.specs.Geometry.{Geometry}
use Rattle.image_model.specs.Section.{Entry}
use Rattle.journal_mode.specs.Closing.{committed_to_place, entries_to_place}
use Rattle.journal_mode.specs.Journal.{PlacedRing}

abbrev entry : ℕ → Entry
entry sector = record { sector = sector; bytes = []; tag = [] }

abbrev five_sections : Geometry
five_sections = record { shape = record { spb = 1; tag_size = 32 }; sections = 5; interleave = 32; tag_run = 8; blocks = 320; log2_region = 15 }

-- Sections 3, 4 and 0 are committed, and 1 is opened. The first sections are placed, and the first entries of the next.
abbrev round_the_end : (sections entries : ℕ) → PlacedRing
round_the_end sections entries = record {
  ring = record {
    geometry = five_sections;
    next = 1;
    number = 1;
    committed = (entry 20 ∷ []) ∷ (entry 30 ∷ entry 31 ∷ []) ∷ (entry 40 ∷ []) ∷ [];
    opened = (entry 50 ∷ []) ∷ [];
    closed = false;
  };
  placement = record { sections = sections; entries = entries };
}

-- ---- what a close places

committed_to_place-in_a_section : committed_to_place (round_the_end 1 1) ≡ entry 31 ∷ entry 40 ∷ []
committed_to_place-in_a_section = refl

entries_to_place-in_a_section : entries_to_place (round_the_end 1 1) ≡ entry 31 ∷ entry 40 ∷ entry 50 ∷ []
entries_to_place-in_a_section = refl

-- Where all that is committed is placed, what is opened is not.
committed_to_place-all : committed_to_place (round_the_end 3 0) ≡ []
committed_to_place-all = refl

entries_to_place-all : entries_to_place (round_the_end 3 0) ≡ entry 50 ∷ []
entries_to_place-all = refl
