-- A device in journal mode with this journal, store of tags and disk.
use Rattle.std.specs.Prelude.{List}
use Rattle.disk_model.specs.Disk.{Content, EachImage}
use Rattle.disk_model.specs.Moments.{EachMoment}
use Rattle.device_model.specs.History.{History}
use Rattle.device_model.specs.Journal.{JournalCounts}
use Rattle.device_model.specs.Mode.{DeviceFormat}
use Rattle.place_model.specs.Left.{IsLeftInJournal}
use Rattle.journal_laws.specs.Device.{IsJournalOf}
use Rattle.journal_model.specs.JournaledDisk.{JournaledDisk}
use Rattle.replay.specs.Moves.{IsPlacedOn}
use Rattle.recalculate_laws.specs.Placing.{GivesPlaced}
use Rattle.tag_store.specs.Store.{Store, given_tags}
use Rattle.journal_mode.specs.Journal.{PlacedRing}

-- What a device in journal mode stands for: its format, its history, its counts, and its disk.
pub record JournalStanding : Type 0 where
  pub format : DeviceFormat
  pub history : History
  pub counts : JournalCounts
  pub disk : JournaledDisk

-- It does so with this journal and this store, over a disk with these moments.
pub record StandsAs (w : JournalStanding) (journal : PlacedRing) (store : Store) (moments : List Content)
    : Type 0 where
  pub device : IsJournalOf w.format w.history w.counts w.disk journal.ring
  pub placed : IsPlacedOn w.disk journal.placement journal.ring store moments

-- ---- what the store gives

-- After a call in which one disk became another one, the store gives of each block the tag that it gave before, where
-- the same cell is placed then as was before, or else the tag of the cell that is placed then.
abbrev pub TagsPlaced : (d then_ : JournaledDisk) → (old new : Store) → (before after : List Content) → Type 0
TagsPlaced d then_ old new before after = GivesPlaced d then_ (given_tags old) (given_tags new) before after

-- ---- within a call

-- At each moment of a call each image may be left of the device.
abbrev pub IsLeftThrough : JournalStanding → (before after : List Content) → Type 0
IsLeftThrough w before after = EachMoment before after (EachImage (IsLeftInJournal w.disk.format w.history))
