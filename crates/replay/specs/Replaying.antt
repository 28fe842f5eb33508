-- The replay of a journal, over the disk whose journal it is.
use Rattle.std.specs.Prelude.{◌≡◌, ℕ, ◌+◌, ◌*◌, ◌<◌, ◌≤◌, ◌==◌, Bool, true, false, if◌then◌else◌, List, filter_map, length, Option, Some}
use Rattle.disk_model.specs.Disk.{Content, Image, last_image, sector_in}
use Rattle.disk_model.specs.Identity.{DiskIdentity}
use Rattle.disk_model.specs.Moments.{HasNow}
use Rattle.image_model.specs.Bitmap.{is_to_recalculate}
use Rattle.image_model.specs.Cells.{Cell, entry_of, last_entry, replayed_entries}
use Rattle.image_model.specs.Geometry.{Geometry, data_at, journal_sectors}
use Rattle.image_model.specs.Section.{Entry}
use Rattle.image_model.specs.Sectors.{bytes_at}
use Rattle.journal_model.specs.JournaledDisk.{ForSomePlaced, IsSound, JournaledDisk, StandsFor, cell_at}
use Rattle.journal_reading.specs.declared.reading.JudgedJournal.{JudgedJournal}
use Rattle.journal_reading.specs.Journal.{FitsJournal, HasJournal, IsJournalOn}
use Rattle.journal_reading.specs.Places.{places_of}
use Rattle.buffer_cache.specs.Cached.{HasNoMark}
use Rattle.tag_store.specs.Store.{IsStore, Store, given_tags}

-- There are as many bytes as a journal of this geometry has, over a disk with a store of its tags.
pub record HasScratch (g : Geometry) (bytes : List ℕ) (store : Store) (disk : DiskIdentity) (moments : List Content)
    : Type 0 where
  pub geometry : g ≡ store.geometry
  pub size : length bytes ≡ 512 * journal_sectors g
  pub store_is : IsStore store disk moments

-- A journal that was judged is replayed with such bytes: they are read of it, or are room for them.
pub record IsReplaying (g : Geometry) (bytes : List ℕ) (journal : JudgedJournal) (store : Store) (disk : DiskIdentity)
    (moments : List Content) : Type 0 where
  pub scratch : HasScratch g bytes store disk moments
  pub open scratch use *
  pub fits : FitsJournal g journal

-- Behind a call the store is one of the disk's tags still, with the geometry that it had, and the disk is the same.
pub record KeepsStoreOn (old new : Store) (disk now : DiskIdentity) (after : List Content) : Type 0 where
  pub store : IsStore new now after
  pub geometry : new.geometry ≡ old.geometry
  pub identity : now ≡ disk

-- The journal of an image has these bytes, and this is kept of it.
pub record IsReadOn (g : Geometry) (bytes : List ℕ) (journal : JudgedJournal) (image : Image) : Type 0 where
  pub on : IsJournalOn g image journal
  pub read : HasJournal g bytes image

-- The entries of an image that stand at the places of a walk.
abbrev pub entries_on : Geometry → Image → List (ℕ × ℕ) → List Entry
entries_on g image walk = filter_map (entry_of g image) (places_of g walk)

-- The disk has these places and the journal of this image, and its entries are those of that. None of them is placed.
pub record IsToReplay (d : JournaledDisk) (g : Geometry) (image : Image) : Type 0 where
  pub geometry : d.geometry ≡ g
  pub journal : d.journal ≡ image
  pub entries : d.entries ≡ replayed_entries g image
  pub none : d.placed ≡ 0

-- The disk with so many of its entries placed,
abbrev pub with_placed : ℕ → JournaledDisk → JournaledDisk
with_placed count d = record d { placed = count }

-- and with all of them.
abbrev pub all_placed : JournaledDisk → JournaledDisk
all_placed d = with_placed (length d.entries) d

-- ---- while entries are placed

-- The cell of a block after all entries.
abbrev pub last_cell : JournaledDisk → ℕ → Cell
last_cell d b = cell_at d (length d.entries) b

-- These blocks without one.
abbrev pub without : ℕ → (ℕ → Bool) → ℕ → Bool
without block ahead b = if block == b then false else ahead b

-- Each block has its data after all entries in place, but for those whose data are ahead, and the tags that are told are
-- those after some number of entries, and after all but for those blocks whose tags are ahead.
pub record IsAmid (d : JournaledDisk) (data_ahead tag_ahead : ℕ → Bool) (tags : ℕ → List ℕ) (c : Content) : Type 0 where
  pub stands : StandsFor (all_placed d) c
  pub reads : (b k : ℕ) → b < d.geometry.blocks → k < d.geometry.shape.spb → data_ahead b ≡ false
      → last_image c (data_at d.geometry b + k) ≡ sector_in (last_cell d b).bytes k
  pub tags_are : (b : ℕ) → b < d.geometry.blocks → is_to_recalculate d.superblock d.geometry b ≡ false
      → ForSomePlaced (all_placed d) (λ count. tags b ≡ (cell_at d count b).tag)
  pub tags_last : (b : ℕ) → b < d.geometry.blocks → is_to_recalculate d.superblock d.geometry b ≡ false
      → tag_ahead b ≡ false → tags b ≡ (last_cell d b).tag

-- The disk with a store of its tags is so now.
pub record HasAmid (d : JournaledDisk) (data_ahead tag_ahead : ℕ → Bool) (store : Store) (moments : List Content)
    : Type 0 where
  pub sound : IsSound (all_placed d)
  pub geometry : d.geometry ≡ store.geometry
  pub now : HasNow (λ c. IsAmid d data_ahead tag_ahead (given_tags store c) c) moments

-- The newest entry of the block is none of so many first ones.
pub record IsAhead (newest : ℕ → Option ℕ) (k b : ℕ) : Type 0 where
  pub at : ℕ
  pub low : k ≤ at
  pub is : newest b ≡ Some at

-- All blocks but those whose newest entry is none of the first ones have their cells after all entries.
pub record HasTurned (d : JournaledDisk) (newest : ℕ → Option ℕ) (k : ℕ) (store : Store) (moments : List Content)
    : Type 0 where
  pub ahead : ℕ → Bool
  pub amid : HasAmid d ahead ahead store moments
  pub behind : (b : ℕ) → ahead b ≡ true → IsAhead newest k b

-- ---- where all is in place

-- Each block's last entry is in place: its bytes on the disk, and its tag as it is told.
pub record AreInPlace (g : Geometry) (entries : List Entry) (tags : ℕ → List ℕ) (c : Content) : Type 0 where
  pub data_ : (b : ℕ) (entry : Entry) → last_entry g entries b ≡ Some entry
      → bytes_at (last_image c) (data_at g b) g.shape.spb ≡ entry.bytes
  pub tag_ : (b : ℕ) (entry : Entry) → last_entry g entries b ≡ Some entry → tags b ≡ entry.tag

-- Nothing was written, nothing is to be written, and the store gives the tags that it gave.
pub record IsStill (old new : Store) (before after : List Content) : Type 0 where
  pub kept : after ≡ before
  pub unmarked : HasNoMark new.sectors
  pub same : HasNow (λ c. (b : ℕ) → given_tags new c b ≡ given_tags old c b) before
