-- What is read of a block: its newest entry in the journal, and what is placed where there is none.
use Rattle.std.specs.Prelude.{◌≡◌, ℕ, false, List, Option, Some, None}
use Rattle.disk_model.specs.Disk.{Content, Reads}
use Rattle.disk_model.specs.Moments.{EachMoment, HasNow}
use Rattle.image_model.specs.Bitmap.{is_to_recalculate}
use Rattle.image_model.specs.Cells.{last_entry}
use Rattle.image_model.specs.Geometry.{data_at}
use Rattle.image_model.specs.Section.{Entry}
use Rattle.device_model.specs.History.{cells_now}
use Rattle.journal_model.specs.JournaledDisk.{StandsFor}
use Rattle.journal_model.specs.Ring.{JournalRing, entries_of}
use Rattle.tag_store.specs.Store.{Store, given_tags}
use Rattle.journal_mode.specs.Journal.{PlacedRing, sections_of}
use Rattle.journal_mode.specs.Standing.{IsLeftThrough, JournalStanding, StandsAs, TagsPlaced}

-- The newest entry of a block in the sections that are not free.
abbrev pub newest_in : JournalRing → ℕ → Option Entry
newest_in ring block = last_entry ring.geometry (entries_of (sections_of ring)) block

-- These are the bytes and the tag of the entry, and nothing has changed: the disk was not called.
pub record ReadsEntry {A : Type 0} (entry : Entry) (bytes tag : List ℕ) (before after : Store)
    (first last : A) : Type 0 where
  pub bytes_ : bytes ≡ entry.bytes
  pub tag_ : tag ≡ entry.tag
  pub store : after ≡ before
  pub disk : last ≡ first

-- These are what reads give of the data of the block, and the tag that the store gives.
pub record ReadsPlaced (block : ℕ) (bytes tag : List ℕ) (store : Store) (moments : List Content)
    : Type 0 where
  pub data_ : HasNow (Reads (data_at store.geometry block) bytes) moments
  pub tag_ : HasNow (λ c. tag ≡ given_tags store c block) moments

-- The newest entry was read, or what is placed.
abbrev pub HasRead : {A : Type 0} → Option Entry → (block : ℕ) → (bytes tag : List ℕ) → (before after : Store)
    → (first last : A) → List Content → Type 0
HasRead (Some entry) block bytes tag before after first last moments =
    ReadsEntry entry bytes tag before after first last
HasRead None block bytes tag before after first last moments = ReadsPlaced block bytes tag before moments

-- These are the bytes and the tag of the block's cell now, but for a tag that is to be recalculated.
pub record GivesBlock (w : JournalStanding) (block : ℕ) (bytes tag : List ℕ) : Type 0 where
  pub bytes_ : bytes ≡ (cells_now w.format.blocks.tag w.history block).bytes
  pub tag_ : is_to_recalculate w.disk.superblock w.disk.geometry block ≡ false
      → tag ≡ (cells_now w.format.blocks.tag w.history block).tag

-- These are the bytes and the tag of the block's cell now.
pub record IsCellNow (w : JournalStanding) (block : ℕ) (bytes tag : List ℕ) : Type 0 where
  pub bytes_ : bytes ≡ (cells_now w.format.blocks.tag w.history block).bytes
  pub tag_ : tag ≡ (cells_now w.format.blocks.tag w.history block).tag

-- The device stands for the same at each moment of a call, and at its end, and the store gives the same tags.
pub record KeepsStanding (w : JournalStanding) (journal : PlacedRing) (old new : Store)
    (before after : List Content) : Type 0 where
  pub stands : EachMoment before after (StandsFor w.disk)
  pub left : IsLeftThrough w before after
  pub now : StandsAs w journal new after
  pub gives : TagsPlaced w.disk w.disk old new before after
