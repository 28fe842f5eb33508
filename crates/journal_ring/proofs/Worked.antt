-- Values of the definitions, told from outside.
use Rattle.std.proofs.Common.{◌≡◌, ℕ, true, false, [], ◌∷◌, Some, None, refl}
use Rattle.image_model.specs.Geometry.{Geometry}
use Rattle.image_model.specs.Section.{Entry}
use Rattle.image_model.specs.declared.entry_place.EntryPlace.{EntryPlace}
use Rattle.journal_model.specs.Ring.{JournalRing}
use Rattle.journal_ring.specs.declared.marks.Marks.{Marks}
use Rattle.journal_ring.specs.Sections.{wrap, filled}
use Rattle.journal_ring.specs.Ring.{number_at, with_section}
use Rattle.journal_ring.specs.Batch.{batch_of, committed_marks, next_entries, next_of}
use Rattle.journal_ring.specs.Places.{entries_at, is_committed, is_free, next_place, oldest_at, oldest_of, position, with_free}

abbrev entry : ℕ → Entry
entry sector = record { sector = sector; bytes = []; tag = [] }

abbrev five_sections : Geometry
five_sections = record {
  shape = record { spb = 1; tag_size = 32 };
  sections = 5;
  interleave = 32;
  tag_run = 8;
  blocks = 320;
  log2_region = 15;
}

-- Sections 2 and 3 are committed, 4 and 0 opened, and 1 is free.
abbrev round_the_end : JournalRing
round_the_end = record {
  geometry = five_sections;
  next = 4;
  number = 1;
  committed = (entry 20 ∷ []) ∷ (entry 30 ∷ entry 31 ∷ []) ∷ [];
  opened = (entry 40 ∷ []) ∷ (entry 50 ∷ entry 51 ∷ []) ∷ [];
  closed = false;
}

-- The first section comes behind the last one.
wrap-last : wrap 5 4 ≡ 4
wrap-last = refl

wrap-behind_the_last : wrap 5 5 ≡ 0
wrap-behind_the_last = refl

-- Unused entries stand behind the used ones.
filled-one_of_three : filled 3 (entry 7 ∷ []) ≡ Some (entry 7) ∷ None ∷ None ∷ []
filled-one_of_three = refl

-- Behind the journal's end the number is the next one, and 0 comes after 3.
number_at-before_the_end : number_at 5 3 2 1 ≡ 2
number_at-before_the_end = refl

number_at-behind_the_end : number_at 5 3 3 2 ≡ 0
number_at-behind_the_end = refl

oldest_at-round_the_end : oldest_at round_the_end ≡ 2
oldest_at-round_the_end = refl

oldest_of-round_the_end : oldest_of round_the_end ≡ Some 2
oldest_of-round_the_end = refl

oldest_of-none : oldest_of (record round_the_end { committed = []; opened = [] }) ≡ None
oldest_of-none = refl

position-first : position round_the_end 0 ≡ 3
position-first = refl

entries_at-committed : entries_at round_the_end 3 ≡ entry 30 ∷ entry 31 ∷ []
entries_at-committed = refl

entries_at-opened : entries_at round_the_end 0 ≡ entry 50 ∷ entry 51 ∷ []
entries_at-opened = refl

entries_at-free : entries_at round_the_end 1 ≡ []
entries_at-free = refl

is_committed-last : is_committed round_the_end 3 ≡ true
is_committed-last = refl

is_committed-opened : is_committed round_the_end 4 ≡ false
is_committed-opened = refl

is_free-opened : is_free round_the_end 0 ≡ false
is_free-opened = refl

is_free-behind_the_opened : is_free round_the_end 1 ≡ true
is_free-behind_the_opened = refl

-- The next entry stands behind those of the last section,
next_place-last_section : next_place round_the_end ≡ (let place : EntryPlace = record { section = 0; entry = 2 } in place)
next_place-last_section = refl

-- or first in the next section where that is closed.
next_place-next_section : next_place (with_section round_the_end) ≡ (let place : EntryPlace = record { section = 1; entry = 0 } in place)
next_place-next_section = refl

-- A batch ends where the journal does.
next_entries-round_the_end : next_entries round_the_end ≡ entry 40 ∷ []
next_entries-round_the_end = refl

oldest_at-freed : oldest_at (with_free round_the_end) ≡ 3
oldest_at-freed = refl

abbrev marks : Marks
marks = record { first = 2; committed = 2; opened = 2; number = 1; closed = false }

next_of-marks : next_of 5 marks ≡ 4
next_of-marks = refl

batch_of-marks : batch_of 5 marks ≡ 1
batch_of-marks = refl

committed_marks-marks : committed_marks 5 marks ≡ (let now : Marks = record { first = 2; committed = 3; opened = 1; number = 2; closed = true } in now)
committed_marks-marks = refl
