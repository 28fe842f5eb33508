-- What a cut leaves of a device in journal mode, and what its reads give.
use Rattle.std.specs.Prelude.{◌≡◌, ℕ, suc, ◌*◌, ◌<◌, Option, Some, None, List, ◌++◌, length, drop, slice_get, is_some}
use Rattle.disk_model.specs.Disk.{Content, EachImage, IsOfRun, OnlyAdds}
use Rattle.image_model.specs.Cells.{last_entry}
use Rattle.image_model.specs.Geometry.{Geometry, section_at}
use Rattle.image_model.specs.Section.{Entry}
use Rattle.device_model.specs.History.{History, cells_now}
use Rattle.device_model.specs.Journal.{JournalCounts, commit}
use Rattle.device_model.specs.Mode.{DeviceFormat}
use Rattle.device_model.specs.Progress.{is_journaled}
use Rattle.place_model.specs.Left.{IsLeftInJournal}
use Rattle.place_model.specs.Blocks.{GivesCell}
use Rattle.journal_model.specs.Entries.{cell_of}
use Rattle.journal_model.specs.JournaledDisk.{JournaledDisk, StandsFor}
use Rattle.journal_model.specs.Ring.{JournalRing, entries_of, IsNextBatch}
use Rattle.journal_model.specs.Steps.{KeepsCells, after_place, after_settle}
use Rattle.journal_laws.specs.Device.{IsJournalOf}

-- ---- at a cut

-- Of a disk that stands for what the device says each image is left of it,
abbrev pub StandingLeftLaw : Type 0
StandingLeftLaw = (f : DeviceFormat) (h : History) (j : JournalCounts) (d : JournaledDisk) (r : JournalRing)
    (c : Content) → IsJournalOf f h j d r → StandsFor d c → EachImage (IsLeftInJournal d.format h) c

-- and so is each image while its next batch is written.
abbrev pub CommittingLeftLaw : Type 0
CommittingLeftLaw = (f : DeviceFormat) (h : History) (j j' : JournalCounts) (d : JournaledDisk)
    (r : JournalRing) (bytes : List ℕ) (first c : Content) → IsJournalOf f h j d r
    → commit f.sections j ≡ Some j' → IsNextBatch r bytes → StandsFor d first
    → OnlyAdds (IsOfRun (section_at d.geometry d.next) bytes) first c
    → EachImage (IsLeftInJournal d.format h) c

-- So is each while an entry is placed,
abbrev pub PlacingLeftLaw : Type 0
PlacingLeftLaw = (f : DeviceFormat) (h : History) (j : JournalCounts) (d : JournaledDisk) (r : JournalRing)
    (c : Content) → IsJournalOf f h j d r → d.placed < length d.entries → StandsFor (after_place d) c
    → EachImage (IsLeftInJournal d.format h) c

-- and once what is placed is settled.
abbrev pub SettlingLeftLaw : Type 0
SettlingLeftLaw = (f : DeviceFormat) (h : History) (j : JournalCounts) (d : JournaledDisk) (r : JournalRing)
    (c : Content) → IsJournalOf f h j d r → StandsFor (after_settle d) c
    → EachImage (IsLeftInJournal d.format h) c

-- ---- reads

-- The newest entry of a block in the sections that are not free.
abbrev pub newest_entry : JournaledDisk → JournalRing → ℕ → Option Entry
newest_entry d r b = last_entry d.geometry (entries_of (r.committed ++ r.opened)) b

-- Entry n of section i, of those that are not free, is the newest one of block b: no other one of the block is behind it.
pub record IsNewestPlace (g : Geometry) (sections : List (List Entry)) (b i n : ℕ)
    (entry : Entry) : Type 0 where
  pub entries : List Entry
  pub section : slice_get sections i ≡ Some entries
  pub there : slice_get entries n ≡ Some entry
  pub block : entry.sector ≡ b * g.shape.spb
  pub last_in_section : last_entry g (drop (suc n) entries) b ≡ None
  pub none_behind : last_entry g (entries_of (drop (suc i) sections)) b ≡ None

-- The block's newest entry is then that one.
abbrev pub NewestPlaceLaw : Type 0
NewestPlaceLaw = (g : Geometry) (sections : List (List Entry)) (b i n : ℕ) (entry : Entry)
    → IsNewestPlace g sections b i n entry → last_entry g (entries_of sections) b ≡ Some entry

-- The counts say that the journal holds a block exactly where it has such an entry.
abbrev pub IsJournaledLaw : Type 0
IsJournaledLaw = (f : DeviceFormat) (h : History) (j : JournalCounts) (d : JournaledDisk) (r : JournalRing)
    (b : ℕ) → IsJournalOf f h j d r → is_journaled j b ≡ is_some (newest_entry d r b)

-- A block with such an entry holds what that says,
abbrev pub JournaledReadLaw : Type 0
JournaledReadLaw = (f : DeviceFormat) (h : History) (j : JournalCounts) (d : JournaledDisk)
    (r : JournalRing) (b : ℕ) (entry : Entry) → IsJournalOf f h j d r → h.pending ≡ None
    → b < f.blocks.blocks → newest_entry d r b ≡ Some entry → cells_now f.blocks.tag h b ≡ cell_of entry

-- and any other one what reads of its data and the tag that is told give.
abbrev pub PlacedReadLaw : Type 0
PlacedReadLaw = (f : DeviceFormat) (h : History) (j : JournalCounts) (d : JournaledDisk) (r : JournalRing)
    (b : ℕ) (tags : ℕ → List ℕ) (c : Content) → IsJournalOf f h j d r → h.pending ≡ None
    → b < f.blocks.blocks → newest_entry d r b ≡ None → KeepsCells d tags c
    → GivesCell d.format b (tags b) c (cells_now f.blocks.tag h b)
