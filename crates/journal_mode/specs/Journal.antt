-- What a contract sees of a journal in use, and what holds of the places that its overlay keeps.
use Rattle.std.specs.Prelude.{◌≡◌, ℕ, ◌+◌, ◌*◌, ◌^◌, ◌≤◌, List, [], ◌∷◌, ◌++◌, length}
use Rattle.std.specs.List.{AllByRecursion}
use Rattle.image_model.specs.Geometry.{Geometry, IsGeometry, section_entries}
use Rattle.image_model.specs.Section.{Entry}
use Rattle.journal_laws.specs.Device.{block_of}
use Rattle.journal_model.specs.Ring.{JournalRing, empty_ring, with_put}
use Rattle.journal_overlay.specs.Kept.{Places, added}
use Rattle.journal_overlay.specs.declared.place.Added.{Added}
use Rattle.journal_ring.specs.Places.{oldest_at}
use Rattle.journal_ring.specs.RoomLaws.{HasBounds}
use Rattle.journal_ring.specs.Sections.{wrap}
use Rattle.replay.specs.Placement.{IsPlacementOf}
use Rattle.replay.specs.DeclaredPlacement.{Placement}

-- The ring of a journal, and how many of its committed entries are placed.
pub record PlacedRing : Type 0 where
  pub ring : JournalRing
  pub placement : Placement

-- The journal of which no section is opened yet, and all are free.
abbrev pub empty_journal : Geometry → (next number : ℕ) → PlacedRing
empty_journal g next number = record {
  ring = empty_ring g next number;
  placement = record { sections = 0; entries = 0 };
}

-- The journal with one entry more.
abbrev pub after_put : Entry → PlacedRing → PlacedRing
after_put entry journal = record journal { ring = with_put entry journal.ring }

-- ---- the places of entries

-- The places of some entries of a section, the first of which is its n-th, each for its block.
abbrev pub places_in : Geometry → (section n : ℕ) → List Entry → List Added
places_in g section n [] = []
places_in g section n (entry ∷ entries) =
    added (block_of g entry) (record { section = section; entry = n }) ∷ places_in g section (n + 1) entries

-- The places of all entries of some sections in a row, the first of which lies here.
abbrev pub places_from : Geometry → (at : ℕ) → List (List Entry) → List Added
places_from g at [] = []
places_from g at (entries ∷ sections) =
    places_in g at 0 entries ++ places_from g (wrap g.sections (at + 1)) sections

-- The sections that are not free, the oldest first.
abbrev pub sections_of : JournalRing → List (List Entry)
sections_of ring = ring.committed ++ ring.opened

-- The places of all entries in sections that are not free, in the ring's order.
abbrev pub places_of : JournalRing → List Added
places_of ring = places_from ring.geometry (oldest_at ring) (sections_of ring)

-- ---- what holds of the parts

-- How many entries the journal can hold.
abbrev pub entries_held : Geometry → ℕ
entries_held g = g.sections * section_entries g.shape

-- The overlay has room for as many places, and keeps none.
pub record IsRoom (g : Geometry) (overlay : Places) : Type 0 where
  pub geometry : IsGeometry g (2 ^ 48)
  pub room : overlay.capacity ≡ entries_held g
  pub none : overlay.kept ≡ []

-- The ring is one that can be, of which so much is placed. The overlay has room for as many places as the journal
-- can hold entries, and keeps those of all entries in sections that are not free.
pub record IsJournal (ring : JournalRing) (p : Placement) (overlay : Places) : Type 0 where
  pub geometry : IsGeometry ring.geometry (2 ^ 48)
  pub bounds : HasBounds ring
  pub few : AllByRecursion (λ entries. length entries ≤ section_entries ring.geometry.shape)
      (sections_of ring)
  pub placement : IsPlacementOf p ring
  pub room : overlay.capacity ≡ entries_held ring.geometry
  pub kept : overlay.kept ≡ places_of ring
