-- Values of the definitions, told from outside.
use Rattle.std.proofs.Common.{◌≡◌, ℕ, false, List, [], ◌∷◌, Option, Some, None, refl}
use Rattle.disk_model.specs.Disk.{Content, OnlyAdds}
use Rattle.disk_model.specs.Moments.{EachSince}
use Rattle.image_model.specs.Geometry.{Geometry}
use Rattle.image_model.specs.Section.{Entry}
use Rattle.direct_mode.specs.Cells.{IsOfBlockOrTags}
use Rattle.journal_model.specs.Ring.{JournalRing, with_settle}
use Rattle.image_model.specs.declared.entry_place.EntryPlace.{EntryPlace}
use Rattle.place_writer.specs.Moves.{WritesNext}
use Rattle.place_writer.specs.Placement.{after_next, next_place, placed_in, without}
use Rattle.place_writer.specs.declared.placement.Placement.{Placement}

abbrev entry : ℕ → Entry
entry sector = record { sector = sector; bytes = []; tag = [] }

abbrev placed : ℕ → ℕ → Placement
placed sections entries = record { sections = sections; entries = entries }

abbrev place : ℕ → ℕ → Option EntryPlace
place section entry_ = Some (record { section = section; entry = entry_ })

abbrev five_sections : Geometry
five_sections = record {
  shape = record { spb = 1; tag_size = 32 };
  sections = 5;
  interleave = 32;
  tag_run = 8;
  blocks = 320;
  log2_region = 15;
}

-- Sections 3, 4 and 0 are committed, and 1 is opened.
abbrev round_the_end : JournalRing
round_the_end = record {
  geometry = five_sections;
  next = 1;
  number = 1;
  committed = (entry 20 ∷ []) ∷ (entry 30 ∷ entry 31 ∷ []) ∷ (entry 40 ∷ []) ∷ [];
  opened = (entry 50 ∷ []) ∷ [];
  closed = false;
}

-- ---- how many are placed, and which one is next

placed_in-none : placed_in (placed 0 0) round_the_end ≡ 0
placed_in-none = refl

placed_in-in_a_section : placed_in (placed 1 1) round_the_end ≡ 2
placed_in-in_a_section = refl

placed_in-all : placed_in (placed 3 0) round_the_end ≡ 4
placed_in-all = refl

next_place-oldest : next_place (placed 0 0) round_the_end ≡ place 3 0
next_place-oldest = refl

next_place-in_a_section : next_place (placed 1 1) round_the_end ≡ place 4 1
next_place-in_a_section = refl

next_place-behind_the_end : next_place (placed 2 0) round_the_end ≡ place 0 0
next_place-behind_the_end = refl

-- The opened section has none.
next_place-all_placed : next_place (placed 3 0) round_the_end ≡ None
next_place-all_placed = refl

-- What is written of the one that is next: none where all are placed.
WritesNext-all_placed : (before after : List Content) → WritesNext (placed 3 0) round_the_end before after ≡ (after ≡ before)
WritesNext-all_placed before after = refl

WritesNext-in_a_section : (before after : List Content) → WritesNext (placed 1 1) round_the_end before after
    ≡ EachSince (OnlyAdds (IsOfBlockOrTags five_sections 31 [])) before after
WritesNext-in_a_section before after = refl

-- ---- after it is placed

after_next-last_of_a_section : after_next (placed 0 0) 1 ≡ placed 1 0
after_next-last_of_a_section = refl

after_next-in_a_section : after_next (placed 1 0) 2 ≡ placed 1 1
after_next-in_a_section = refl

-- ---- what a settle leaves

-- A section with one entry that is not placed stays.
without-settled : with_settle (placed_in (placed 1 1) round_the_end) round_the_end ≡ without 1 round_the_end
without-settled = refl

without-all : (without 3 round_the_end).committed ≡ []
without-all = refl
