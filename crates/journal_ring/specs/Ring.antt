-- The ring that the sections in memory are, and what holds of their bytes.
use Rattle.std.specs.Prelude.{◌≡◌, ℕ, ◌+◌, ◌*◌, ◌^◌, ◌<◌, ◌≤◌, ltb, false, if◌then◌else◌, List, [], ◌∷◌, ◌++◌, length, map, slice_index}
use Rattle.std.specs.List.{range_with_len}
use Rattle.image_model.specs.Geometry.{Geometry, section_sectors, IsGeometry}
use Rattle.image_model.specs.Section.{Entry, section_bytes}
use Rattle.image_model.specs.Walk.{later}
use Rattle.image_model.specs.Entries.{BearsNumber}
use Rattle.journal_model.specs.Ring.{JournalRing, has_open_section, put_last}
use Rattle.journal_ring.specs.declared.marks.Marks.{Marks}
use Rattle.journal_ring.specs.Sections.{wrap, used_in, IsHeld}

-- Which section lies k sections behind the oldest one.
abbrev pub section_of : Geometry → Marks → ℕ → ℕ
section_of g m k = wrap g.sections (m.first + k)

-- Its entries.
abbrev pub entries_held : Geometry → List ℕ → ℕ → ℕ → List Entry
entries_held g bytes first k = used_in g.shape (section_bytes g.shape bytes (wrap g.sections (first + k)))

-- The ring, by the bytes of its sections and where they lie.
abbrev pub view_of : Geometry → List ℕ → Marks → JournalRing
view_of g bytes m = record {
  geometry = g;
  next = wrap g.sections (m.first + m.committed);
  number = m.number;
  committed = map (entries_held g bytes m.first) (range_with_len 0 m.committed);
  opened = map (entries_held g bytes m.first) (range_with_len m.committed m.opened);
  closed = m.closed;
}

-- The number under which the section is committed that lies k behind the next one: the one after, behind the
-- journal's end.
abbrev pub number_at : ℕ → ℕ → ℕ → ℕ → ℕ
number_at sections next number k = if ltb (next + k) sections then number else later 1 number

-- The bytes are those of the sections, of which each holds as many entries as its count says, none where it is
-- free; those that are opened bear the number under which they are committed.
pub record IsRing (g : Geometry) (bytes counts : List ℕ) (m : Marks) : Type 0 where
  pub geometry : IsGeometry g (2 ^ 48)
  pub size : length bytes ≡ 512 * (g.sections * section_sectors g.shape)
  pub counts_are : length counts ≡ g.sections
  pub first : m.first < g.sections
  pub number : m.number < 4
  pub fits : m.committed + m.opened ≤ g.sections
  pub held : (k : ℕ) → k < m.committed + m.opened
      → IsHeld g.shape (slice_index counts (section_of g m k))
      (section_bytes g.shape bytes (section_of g m k))
  pub free : (k : ℕ) → m.committed + m.opened ≤ k → k < g.sections → slice_index counts (section_of g m k) ≡ 0
  pub sealed : (k : ℕ) → k < m.opened → BearsNumber g.shape (section_of g m (m.committed + k))
      (number_at g.sections (section_of g m m.committed) m.number k)
      (section_bytes g.shape bytes (section_of g m (m.committed + k)))

-- ---- an entry is put, in two steps

-- The ring with one section more, without an entry.
abbrev pub with_section : JournalRing → JournalRing
with_section ring = record ring { opened = ring.opened ++ [] ∷ []; closed = false }

-- The ring with one section more where none is open.
abbrev pub with_open : JournalRing → JournalRing
with_open ring = if has_open_section ring then ring else with_section ring

-- The ring with one entry more in its last section.
abbrev pub with_entry : Entry → JournalRing → JournalRing
with_entry entry ring = record ring { opened = put_last entry ring.opened }
