-- A close of a journal: all is committed, placed and settled.
use Rattle.std.specs.Prelude.{◌≡◌, ℕ, ◌<◌, List, [], length, drop}
use Rattle.std.specs.List.{Contains}
use Rattle.disk_model.specs.Disk.{Content, EachImage, Image, OnlyAdds}
use Rattle.disk_model.specs.Moments.{EachSince, HasNow}
use Rattle.image_model.specs.Cells.{recalculated_cell}
use Rattle.image_model.specs.Geometry.{Geometry}
use Rattle.image_model.specs.Section.{Entry}
use Rattle.device_model.specs.History.{Flushed, cells_now, with_change}
use Rattle.device_model.specs.Journal.{JournalCounts}
use Rattle.journal_model.specs.JournaledDisk.{JournaledDisk}
use Rattle.journal_model.specs.Ring.{JournalRing, entries_of}
use Rattle.replay.specs.Placement.{placed_in}
use Rattle.place_model.specs.RecoveryWrites.{IsOfPlacing}
use Rattle.tag_store.specs.Store.{Store}
use Rattle.journal_mode.specs.Commits.{WritesBatches, with_disk}
use Rattle.journal_mode.specs.Journal.{PlacedRing, sections_of}
use Rattle.journal_mode.specs.Standing.{JournalStanding, StandsAs, TagsPlaced}

-- Every section of the ring is free.
pub record IsAllFree (ring : JournalRing) : Type 0 where
  pub none_committed : ring.committed ≡ []
  pub none_opened : ring.opened ≡ []

-- The device stands for the same history over a disk with more of its entries placed.
pub record HasPlacedMore (w : JournalStanding) (new : PlacedRing) (tags store : Store) (before after : List Content)
    : Type 0 where
  pub counts : JournalCounts
  pub count : ℕ
  pub stands : StandsAs (with_disk counts (record w.disk { placed = count }) w) new store after
  pub gives : TagsPlaced w.disk (record w.disk { placed = count }) tags store before after

-- In an image each block has in its place the cell that the history gives it now, whatever the image's journal.
abbrev pub HasContent : JournalStanding → Image → Type 0
HasContent w image = (b : ℕ) → b < w.disk.geometry.blocks
    → recalculated_cell w.disk.key w.disk.superblock w.disk.geometry image b
    ≡ cells_now w.format.blocks.tag w.history b

-- The device has all committed, and so flushed, over a disk of the same format of which all entries are settled, and
-- each image has the content in its places.
pub record HasClosed (w : JournalStanding) (new : PlacedRing) (tags store : Store) (before after : List Content)
    : Type 0 where
  pub counts : JournalCounts
  pub disk : JournaledDisk
  pub format : disk.format ≡ w.disk.format
  pub committed : StandsAs (with_disk counts disk w) new store after
  pub stands : StandsAs (record (with_disk counts disk w) { history = with_change w.history Flushed })
      new store after
  pub gives : TagsPlaced w.disk disk tags store before after
  pub settled : disk.settled ≡ length disk.entries
  pub images : HasNow (EachImage (HasContent w)) after

-- ---- what is written

-- The committed entries that are not placed, in order,
abbrev pub committed_to_place : PlacedRing → List Entry
committed_to_place journal = drop (placed_in journal.placement journal.ring) (entries_of journal.ring.committed)

-- and all entries that are not.
abbrev pub entries_to_place : PlacedRing → List Entry
entries_to_place journal = drop (placed_in journal.placement journal.ring) (entries_of (sections_of journal.ring))

-- No sector is written but those of tags, and those of the blocks of these entries, with their bytes.
abbrev pub WritesEntries : Geometry → List Entry → (before after : List Content) → Type 0
WritesEntries g entries before after = EachSince (OnlyAdds (IsOfPlacing g (Contains entries))) before after

-- Batches are written, as in a flush, and then such sectors of all entries that are not placed.
pub record WritesAll (journal : PlacedRing) (before after : List Content) : Type 0 where
  pub middle : List Content
  pub batches : WritesBatches journal before middle
  pub places : WritesEntries journal.ring.geometry (entries_to_place journal) middle after
