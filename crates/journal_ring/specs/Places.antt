-- Where entries stand in the ring.
use Rattle.std.specs.Prelude.{ℕ, ◌+◌, ◌-◌, ◌*◌, ◌==◌, ltb, leb, Bool, if◌then◌else◌, Option, Some, None, List, [], ◌∷◌, ◌++◌, length, drop, get_or}
use Rattle.image_model.specs.Geometry.{Geometry}
use Rattle.image_model.specs.Section.{Entry}
use Rattle.journal_model.specs.Ring.{JournalRing}
use Rattle.image_model.specs.declared.entry_place.EntryPlace.{EntryPlace}
use Rattle.journal_ring.specs.Sections.{wrap}

-- The entry of a block with these bytes and this tag.
abbrev pub entry_of : Geometry → ℕ → List ℕ → List ℕ → Entry
entry_of g block bytes tag = record { sector = block * g.shape.spb; bytes = bytes; tag = tag }

-- The entries of the last of some sections.
abbrev pub last_of : List (List Entry) → List Entry
last_of [] = []
last_of (x ∷ []) = x
last_of (x ∷ y ∷ sections) = last_of (y ∷ sections)

-- The place of the next entry in the last section.
abbrev pub next_place : JournalRing → EntryPlace
next_place ring = record {
  section = wrap ring.geometry.sections (ring.next + (length ring.opened - 1));
  entry = length (last_of ring.opened);
}

-- ---- where sections lie

-- Where the oldest section lies that is not free, if there is one.
abbrev pub oldest_at : JournalRing → ℕ
oldest_at ring = wrap ring.geometry.sections (ring.next + (ring.geometry.sections - length ring.committed))

-- That section, and none where all are free.
abbrev pub oldest_of : JournalRing → Option ℕ
oldest_of ring = if length ring.committed + length ring.opened == 0 then None else Some (oldest_at ring)

-- How far behind it a section lies.
abbrev pub position : JournalRing → ℕ → ℕ
position ring section = wrap ring.geometry.sections (section + (ring.geometry.sections - oldest_at ring))

-- The entries of a section, none where it is free.
abbrev pub entries_at : JournalRing → ℕ → List Entry
entries_at ring section = get_or (ring.committed ++ ring.opened) (position ring section) []

-- The section is committed and not free,
abbrev pub is_committed : JournalRing → ℕ → Bool
is_committed ring section = ltb (position ring section) (length ring.committed)

-- or free.
abbrev pub is_free : JournalRing → ℕ → Bool
is_free ring section = leb (length ring.committed + length ring.opened) (position ring section)

-- The ring without its oldest section.
abbrev pub with_free : JournalRing → JournalRing
with_free ring = record ring { committed = drop 1 ring.committed }
