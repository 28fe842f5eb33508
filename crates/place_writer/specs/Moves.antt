-- What placing and settling do to the disk, the ring and what is placed of it.
use Rattle.std.specs.Prelude.{◌≡◌, ◌≢◌, ℕ, ◌+◌, ◌-◌, ◌<◌, Option, Some, None, List, [], length, slice_get}
use Rattle.disk_model.specs.Disk.{Content, EachImage, Image, OnlyAdds}
use Rattle.disk_model.specs.Moments.{EachMoment, EachSince, HasNow}
use Rattle.image_model.specs.Cells.{recalculated_cell}
use Rattle.image_model.specs.Geometry.{Geometry}
use Rattle.image_model.specs.Section.{Entry}
use Rattle.journal_laws.specs.Device.{IsJournalRing, block_of, placed_count}
use Rattle.place_model.specs.Tags.{with_block_tag}
use Rattle.direct_mode.specs.CallLaws.{GivesTags}
use Rattle.direct_mode.specs.Cells.{IsOfBlockOrTags}
use Rattle.journal_model.specs.JournaledDisk.{JournaledDisk, IsCutOf, StandsFor, cell_at}
use Rattle.journal_model.specs.Ring.{JournalRing, entries_of, with_settle}
use Rattle.journal_model.specs.Steps.{after_place, after_settle}
use Rattle.image_model.specs.declared.entry_place.EntryPlace.{EntryPlace}
use Rattle.journal_ring.specs.Places.{entries_at}
use Rattle.journal_ring.specs.declared.ring.Moved.{Moved}
use Rattle.journal_ring.specs.declared.ring.Moved.TheVariants.{Did, Idle}
use Rattle.tag_store.specs.Store.{IsMarkedTags, Store, given_tags}
use Rattle.place_writer.specs.Cells.{HasCells}
use Rattle.place_writer.specs.Placement.{placed_in}
use Rattle.place_writer.specs.declared.placement.Placement.{Placement}

-- The ring is that of the disk, as much of it is placed as the disk says, and with the tags of the store the disk
-- has its cells.
pub record IsPlacedOn (d : JournaledDisk) (p : Placement) (ring : JournalRing) (store : Store)
    (moments : List Content) : Type 0 where
  pub ring_ : IsJournalRing d ring
  pub placed : placed_count d ring ≡ placed_in p ring
  pub cells : HasCells d store moments

-- At each moment the disk stands for one thing, and each image is a cut of another.
pub record StandsThrough (d cut : JournaledDisk) (before after : List Content) : Type 0 where
  pub stands : EachMoment before after (StandsFor d)
  pub cuts : EachMoment before after (EachImage (IsCutOf cut []))

-- ---- an entry is placed

-- What the disk stands for then.
abbrev pub after_placing : Moved → JournaledDisk → JournaledDisk
after_placing Did d = after_place d
after_placing Idle d = d

-- One entry more of the ring is placed.
pub record PlacesOne (old new : Placement) (ring : JournalRing) : Type 0 where
  pub more : placed_in old ring < length (entries_of ring.committed)
  pub next : placed_in new ring ≡ placed_in old ring + 1

-- All of them are, and nothing has changed: the disk was not called.
pub record FindsAllPlaced {A : Type 0} (old new : Placement) (ring : JournalRing) (before after : Store)
    (first last : A) : Type 0 where
  pub all : placed_in old ring ≡ length (entries_of ring.committed)
  pub placement : new ≡ old
  pub store : after ≡ before
  pub disk : last ≡ first

-- Placing did the one, or found the other.
abbrev pub HasPlaced : {A : Type 0} → Moved → (old new : Placement) → JournalRing → (before after : Store)
    → (first last : A) → Type 0
HasPlaced Did old new ring before after first last = PlacesOne old new ring
HasPlaced Idle old new ring before after first last = FindsAllPlaced old new ring before after first last

-- Every disk of which so much was placed stands for that then, and so much of it is placed.
abbrev pub PlacesOnEach : Moved → (old new : Placement) → JournalRing → (store last : Store)
    → (before after : List Content) → Type 0
PlacesOnEach moved old new ring store last before after = (d : JournaledDisk) → IsPlacedOn d old ring store before
    → IsPlacedOn (after_placing moved d) new ring last after

-- At each moment of it such a disk stands for the one with the entry, and each image is a cut of the one without.
abbrev pub StandsInPlacing : Placement → JournalRing → Store → (before after : List Content) → Type 0
StandsInPlacing p ring store before after = (d : JournaledDisk) → IsPlacedOn d p ring store before
    → StandsThrough (after_place d) d before after

-- No sector is written but those of tags, and those of the entry's block, with its bytes. Where there is no entry the
-- disk is left alone.
abbrev pub WritesEntry : Geometry → Option Entry → (before after : List Content) → Type 0
WritesEntry g (Some entry) before after =
    EachSince (OnlyAdds (IsOfBlockOrTags g (block_of g entry) entry.bytes)) before after
WritesEntry g None before after = after ≡ before

-- So for the oldest committed entry that is not placed.
abbrev pub WritesNext : Placement → JournalRing → (before after : List Content) → Type 0
WritesNext p ring before after =
    WritesEntry ring.geometry (slice_get (entries_of ring.committed) (placed_in p ring)) before after

-- The store gives for the entry's block the entry's tag then, and for each other block the tag that it gave. Where
-- there is no entry it gives for each the tag that it gave.
abbrev pub GivesEntry : Geometry → Option Entry → (old new : Store) → (before after : List Content) → Type 0
GivesEntry g (Some entry) old new before after =
    GivesTags g (λ c. with_block_tag (block_of g entry) entry.tag (given_tags old c)) (given_tags new) before after
GivesEntry g None old new before after = GivesTags g (given_tags old) (given_tags new) before after

-- So for the oldest committed entry that is not placed.
abbrev pub GivesNext : Placement → JournalRing → (old new : Store) → (before after : List Content) → Type 0
GivesNext p ring old new before after =
    GivesEntry ring.geometry (slice_get (entries_of ring.committed) (placed_in p ring)) old new before after

-- ---- an entry that stands here in a ring

-- The entry, if there is one.
abbrev pub entry_in : JournalRing → EntryPlace → Option Entry
entry_in ring place = slice_get (entries_at ring place.section) place.entry

-- Every disk of which it is the next one, and that has its cells, has those of the disk with it then.
abbrev pub PlacesThere : JournalRing → EntryPlace → (store last : Store) → (before after : List Content) → Type 0
PlacesThere ring place store last before after = (d : JournaledDisk) (entry : Entry)
    → entry_in ring place ≡ Some entry → slice_get d.entries d.placed ≡ Some entry → HasCells d store before
    → HasCells (after_place d) last after

-- At each moment of it such a disk stands for the one with the entry.
abbrev pub StandsThere : JournalRing → EntryPlace → Store → (before after : List Content) → Type 0
StandsThere ring place store before after = (d : JournaledDisk) (entry : Entry)
    → entry_in ring place ≡ Some entry → slice_get d.entries d.placed ≡ Some entry → HasCells d store before
    → EachMoment before after (StandsFor (after_place d))

-- The store gives for its block its tag then, and for each other block the tag that it gave.
abbrev pub GivesThere : JournalRing → EntryPlace → (store last : Store) → (before after : List Content) → Type 0
GivesThere ring place store last before after = (entry : Entry) → entry_in ring place ≡ Some entry
    → GivesEntry store.geometry (Some entry) store last before after

-- No sector is written but those of tags, and those of its block, with its bytes.
abbrev pub WritesThere : JournalRing → EntryPlace → Geometry → (before after : List Content) → Type 0
WritesThere ring place g before after = (entry : Entry) → entry_in ring place ≡ Some entry
    → EachSince (OnlyAdds (IsOfBlockOrTags g (block_of g entry) entry.bytes)) before after

-- ---- what is placed is settled

-- In an image each block has in its place the cell after all placed entries, whatever its journal: that of the
-- block's last entry that is placed, and where it has none the one at opening.
abbrev pub HasPlacedCells : JournaledDisk → Image → Type 0
HasPlacedCells d image = (b : ℕ) → b < d.geometry.blocks
    → recalculated_cell d.key d.superblock d.geometry image b ≡ cell_at d d.placed b

-- All that is placed is settled, and is in its place in every image.
pub record IsSettledOn (d : JournaledDisk) (p : Placement) (ring : JournalRing) (store : Store)
    (moments : List Content) : Type 0 where
  pub on : IsPlacedOn (after_settle d) p ring store moments
  pub images : HasNow (EachImage (HasPlacedCells d)) moments

-- The disk, the ring and the store then, or as before where there is nothing to free.
abbrev pub IsLeftOn : Moved → JournaledDisk → Placement → JournalRing → Store → List Content → Type 0
IsLeftOn Did d p ring store moments = IsSettledOn d p ring store moments
IsLeftOn Idle d p ring store moments = IsPlacedOn d p ring store moments

-- Every disk of which so much was placed is left so,
abbrev pub SettlesOnEach : Moved → (old new : Placement) → (ring left : JournalRing) → (store last : Store)
    → (before after : List Content) → Type 0
SettlesOnEach moved old new ring left store last before after = (d : JournaledDisk)
    → IsPlacedOn d old ring store before → IsLeftOn moved d new left last after

-- and stands for the same at each moment of it.
abbrev pub StandsInSettling : Placement → JournalRing → Store → (before after : List Content) → Type 0
StandsInSettling p ring store before after = (d : JournaledDisk) → IsPlacedOn d p ring store before
    → StandsThrough d d before after

-- Sections were freed, all those of which each entry is placed.
pub record FreesPlaced (old new : Placement) (ring left : JournalRing) : Type 0 where
  pub some : with_settle (placed_in old ring) ring ≢ ring
  pub left_is : left ≡ with_settle (placed_in old ring) ring
  pub rest : placed_in old ring
      ≡ placed_in new left + (length (entries_of ring.committed) - length (entries_of left.committed))

-- No sector is written but those of tags that are marked. Where no committed section is wholly placed the disk is left
-- alone.
pub record WritesTags (p : Placement) (ring : JournalRing) (store : Store) (before after : List Content) : Type 0 where
  pub tags : EachSince (OnlyAdds (IsMarkedTags store)) before after
  pub none : with_settle (placed_in p ring) ring ≡ ring → after ≡ before

-- No committed section is wholly placed, and nothing has changed: the disk was not called.
pub record FindsNoneToFree {A : Type 0} (old new : Placement) (ring left : JournalRing)
    (before after : Store) (first last : A) : Type 0 where
  pub none : with_settle (placed_in old ring) ring ≡ ring
  pub ring_ : left ≡ ring
  pub placement : new ≡ old
  pub store : after ≡ before
  pub disk : last ≡ first

-- Settling did the one, or found the other.
abbrev pub HasSettled : {A : Type 0} → Moved → (old new : Placement) → (ring left : JournalRing)
    → (before after : Store) → (first last : A) → Type 0
HasSettled Did old new ring left before after first last = FreesPlaced old new ring left
HasSettled Idle old new ring left before after first last =
    FindsNoneToFree old new ring left before after first last
