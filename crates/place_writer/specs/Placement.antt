-- Which of the committed entries of a ring are in their places, and which one is next.
use Rattle.std.specs.Prelude.{◌≡◌, ◌⊎◌, ℕ, ◌+◌, ◌*◌, ◌%◌, ◌<◌, ◌≤◌, ◌==◌, ltb, if◌then◌else◌, Option, Some, None, [], length, take, drop, get_or}
use Rattle.std.specs.List.{AllByRecursion}
use Rattle.image_model.specs.Geometry.{Geometry}
use Rattle.image_model.specs.Section.{Entry}
use Rattle.journal_model.specs.Ring.{JournalRing, entries_of}
use Rattle.image_model.specs.declared.entry_place.EntryPlace.{EntryPlace}
use Rattle.journal_ring.specs.Places.{oldest_at}
use Rattle.journal_ring.specs.Sections.{wrap}
use Rattle.place_writer.specs.declared.placement.Placement.{Placement}

-- How many of the ring's committed entries are placed.
abbrev pub placed_in : Placement → JournalRing → ℕ
placed_in p ring = length (entries_of (take p.sections ring.committed)) + p.entries

-- Where the oldest committed entry stands that is not placed, if there is one.
abbrev pub next_place : Placement → JournalRing → Option EntryPlace
next_place p ring =
    if ltb p.sections (length ring.committed)
    then Some (record {
      section = wrap ring.geometry.sections (oldest_at ring + p.sections);
      entry = p.entries;
    })
    else None

-- The entry is one of a whole block of the layout, with a whole tag.
pub record IsWholeEntry (g : Geometry) (entry : Entry) : Type 0 where
  pub begins : entry.sector % g.shape.spb ≡ 0
  pub inside : entry.sector < g.blocks * g.shape.spb
  pub bytes : length entry.bytes ≡ 512 * g.shape.spb
  pub tag : length entry.tag ≡ g.shape.tag_size

-- Each of the ring's sections has entries, all of whole blocks.
pub record IsWholeRing (ring : JournalRing) : Type 0 where
  pub some : AllByRecursion (λ entries. 1 ≤ length entries) ring.committed
  pub whole : AllByRecursion (AllByRecursion (IsWholeEntry ring.geometry)) ring.committed
  pub some_opened : AllByRecursion (λ entries. 1 ≤ length entries) ring.opened
  pub whole_opened : AllByRecursion (AllByRecursion (IsWholeEntry ring.geometry)) ring.opened

-- So much of the ring is placed.
pub record IsPlacementOf (p : Placement) (ring : JournalRing) : Type 0 where
  pub ring_ : IsWholeRing ring
  pub open ring_ use *
  pub sections : p.sections ≤ length ring.committed
  pub entries : (p.entries ≡ 0) ⊎ (p.entries < length (get_or ring.committed p.sections []))

-- After the next entry is placed, of a section of so many.
abbrev pub after_next : Placement → ℕ → Placement
after_next p count =
    if p.entries + 1 == count
    then record { sections = p.sections + 1; entries = 0 }
    else record { sections = p.sections; entries = p.entries + 1 }

-- The ring without its oldest sections, so many of the committed ones.
abbrev pub without : ℕ → JournalRing → JournalRing
without count ring = record ring { committed = drop count ring.committed }
