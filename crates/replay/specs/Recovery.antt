-- What a recovery is entered with, and what it leaves.
-- Own: an opening syncs before it, so that nothing is pending.
use Rattle.std.specs.Prelude.{◌≡◌, ◌↔◌, ℕ, ◌<◌, false, List, [], length}
use Rattle.disk_model.specs.Disk.{Content, HasNothingPending, last_image}
use Rattle.disk_model.specs.Moments.{HasNow}
use Rattle.image_model.specs.declared.flags.TheConstants.{DIRTY_BITMAP}
use Rattle.image_model.specs.Cells.{replayed_entries}
use Rattle.image_model.specs.Geometry.{Geometry}
use Rattle.image_model.specs.Grid.{walk_of}
use Rattle.image_model.specs.Superblock.{has_flag}
use Rattle.place_model.specs.Format.{DiskFormat, OpensAs}
use Rattle.place_model.specs.Opened.{next_after_walk}
use Rattle.journal_model.specs.JournaledDisk.{JournaledDisk, Rests}
use Rattle.journal_model.specs.Recovery.{IsRecovered}
use Rattle.journal_reading.specs.declared.reading.JudgedJournal.{JudgedJournal}
use Rattle.journal_reading.specs.Journal.{IsJournalOn}
use Rattle.place_writer.specs.Cells.{HasCells}
use Rattle.tag_store.specs.Store.{Store, given}
use Rattle.replay.specs.declared.recovered.Recovered.{Recovered}

-- The content of a disk of so many sectors is an image in this format that can be opened, and has a journal and no bitmap.
-- Nothing is pending, neither on the disk nor in the store of tags.
pub record EntersRecovery (f : DiskFormat) (sectors : ℕ) (store : Store) (c : Content) : Type 0 where
  pub sectors_are : f.sectors ≡ sectors
  pub geometry : f.geometry ≡ store.geometry
  pub opens : OpensAs f (last_image c)
  pub no_bitmap : has_flag DIRTY_BITMAP f.superblock.flags ≡ false
  pub pending : HasNothingPending c
  pub fresh : given store c ≡ last_image c

-- The disk is recovered from what it stood for: it has the same cells, all in their places, and goes on as is told. Its
-- journal has one number and no used entry exactly where that is told.
pub record LeavesRecovered (d : JournaledDisk) (at : Recovered) (tags : ℕ → List ℕ) (c : Content) : Type 0 where
  pub recovered : IsRecovered d at.next at.number tags c
  pub pending : HasNothingPending c
  pub unused : (at.used ≡ false)
      ↔ ((at.next ≡ 0) × (replayed_entries recovered.now.geometry recovered.now.journal ≡ []))

-- Writing goes on in a section of the journal, with a commit number.
pub record GoesOnIn (g : Geometry) (at : Recovered) : Type 0 where
  pub next : at.next < g.sections
  pub number : at.number < 4

-- It goes on so, in the section that the walk of the image at the start says.
pub record GoesOnFrom (g : Geometry) (before : List Content) (at : Recovered) : Type 0 where
  pub inside : GoesOnIn g at
  pub next : HasNow (λ start. at.next ≡ next_after_walk (walk_of g (last_image start))) before

-- The entries of the disk's journal, of which this is kept, are all in their places and synced. The journal is one of an
-- image of whole sectors.
pub record IsReplayed (d : JournaledDisk) (g : Geometry) (journal : JudgedJournal) : Type 0 where
  pub geometry : d.geometry ≡ g
  pub whole : (sector : ℕ) → sector < d.sectors → length (d.journal sector) ≡ 512
  pub on : IsJournalOn g d.journal journal
  pub entries : d.entries ≡ replayed_entries g d.journal
  pub settled : d.settled ≡ length d.entries
  pub placed : d.placed ≡ length d.entries

-- The disk is at rest as is told: all entries are in their places and synced, and where nothing is used the journal has
-- one number and no used entry.
pub record IsAtRestOn (d : JournaledDisk) (at : Recovered) (store : Store) (moments : List Content) : Type 0 where
  pub cells : HasCells d store moments
  pub rests : Rests d
  pub next_is : d.next ≡ at.next
  pub number_is : d.number ≡ at.number
  pub settled : d.settled ≡ length d.entries
  pub placed : d.placed ≡ length d.entries
  pub pending : HasNow HasNothingPending moments
  pub unused : at.used ≡ false → (at.next ≡ 0) × (replayed_entries d.geometry d.journal ≡ [])
