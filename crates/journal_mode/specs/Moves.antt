-- A place, a settle and a close of a journal, as steps of the device.
use Rattle.std.specs.Prelude.{◌≡◌, List, Some, None}
use Rattle.disk_model.specs.Disk.{Content, EachImage}
use Rattle.disk_model.specs.Moments.{HasNow}
use Rattle.device_model.specs.Journal.{JournalCounts, place, settle}
use Rattle.journal_model.specs.Steps.{after_place, after_settle}
use Rattle.journal_ring.specs.declared.ring.Moved.{Moved}
use Rattle.journal_ring.specs.declared.ring.Moved.TheVariants.{Did, Idle}
use Rattle.replay.specs.Moves.{HasPlacedCells}
use Rattle.tag_store.specs.Store.{Store}
use Rattle.journal_mode.specs.Commits.{with_disk}
use Rattle.journal_mode.specs.Journal.{PlacedRing}
use Rattle.journal_mode.specs.Standing.{JournalStanding, StandsAs, TagsPlaced}

-- ---- a place

-- The counts have an entry more that is placed, and so has the disk.
pub record HasPlace (w : JournalStanding) (new : PlacedRing) (tags store : Store) (before after : List Content)
    : Type 0 where
  pub counts : JournalCounts
  pub counts_are : place w.counts ≡ Some counts
  pub stands : StandsAs (with_disk counts (after_place w.disk) w) new store after
  pub gives : TagsPlaced w.disk (after_place w.disk) tags store before after

-- The counts have nothing to place, and the device stands for the same.
pub record HasNoPlace (w : JournalStanding) (new : PlacedRing) (tags store : Store) (before after : List Content)
    : Type 0 where
  pub none : place w.counts ≡ None
  pub stands : StandsAs w new store after
  pub gives : TagsPlaced w.disk w.disk tags store before after

-- So the device has placed.
abbrev pub PlacesAs : Moved → JournalStanding → PlacedRing → (tags store : Store) → (before after : List Content)
    → Type 0
PlacesAs Did w new tags store before after = HasPlace w new tags store before after
PlacesAs Idle w new tags store before after = HasNoPlace w new tags store before after

-- ---- a settle

-- The counts have sections more that are free, and on the disk all that is placed is settled: each image has it in
-- its place.
pub record HasSettle (w : JournalStanding) (new : PlacedRing) (tags store : Store) (before after : List Content)
    : Type 0 where
  pub counts : JournalCounts
  pub counts_are : settle w.counts ≡ Some counts
  pub stands : StandsAs (with_disk counts (after_settle w.disk) w) new store after
  pub gives : TagsPlaced w.disk (after_settle w.disk) tags store before after
  pub images : HasNow (EachImage (HasPlacedCells w.disk)) after

-- The counts have nothing to settle, and the device stands for the same.
pub record HasNoSettle (w : JournalStanding) (new : PlacedRing) (tags store : Store) (before after : List Content)
    : Type 0 where
  pub none : settle w.counts ≡ None
  pub stands : StandsAs w new store after
  pub gives : TagsPlaced w.disk w.disk tags store before after

-- So the device has settled.
abbrev pub SettlesAs : Moved → JournalStanding → PlacedRing → (tags store : Store) → (before after : List Content)
    → Type 0
SettlesAs Did w new tags store before after = HasSettle w new tags store before after
SettlesAs Idle w new tags store before after = HasNoSettle w new tags store before after
