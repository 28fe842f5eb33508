-- A commit of a journal, and a flush: commits until nothing is left to commit.
use Rattle.std.specs.Prelude.{◌≡◌, ◌≢◌, ◌⊎◌, ℕ, List, [], ◌∷◌, Some, None}
use Rattle.disk_model.specs.Disk.{Content}
use Rattle.image_model.specs.Section.{Entry}
use Rattle.device_model.specs.History.{BlockWrite, History, Begun, Written, Flushed, with_change}
use Rattle.device_model.specs.Journal.{JournalCounts, commit, commit_all}
use Rattle.journal_model.specs.JournaledDisk.{JournaledDisk}
use Rattle.journal_model.specs.Ring.{next_batch, with_commit}
use Rattle.journal_model.specs.Steps.{after_commit}
use Rattle.journal_ring.specs.Batch.{HasWritten, WritesBatch}
use Rattle.journal_ring.specs.declared.ring.Moved.{Moved}
use Rattle.journal_ring.specs.declared.ring.Moved.TheVariants.{Did, Idle}
use Rattle.tag_store.specs.Store.{Store}
use Rattle.journal_mode.specs.Journal.{PlacedRing}
use Rattle.journal_mode.specs.Standing.{JournalStanding, StandsAs, TagsPlaced}

-- The journal with its next batch committed.
abbrev pub after_batch : PlacedRing → PlacedRing
after_batch journal = record journal { ring = with_commit journal.ring }

-- The batch was written and synced.
pub record CommitsBatch (old new : PlacedRing) (before after : List Content) : Type 0 where
  pub some : old.ring.opened ≢ []
  pub journal : new ≡ after_batch old
  pub written : HasWritten old.ring before after

-- No section is opened, and nothing has changed: the disk was not called.
pub record FindsNoneOpened {A : Type 0} (old new : PlacedRing) (first last : A) : Type 0 where
  pub none : old.ring.opened ≡ []
  pub journal : new ≡ old
  pub disk : last ≡ first

-- A commit did the one, or found the other.
abbrev pub HasCommitted : {A : Type 0} → Moved → (old new : PlacedRing) → (first last : A)
    → (before after : List Content) → Type 0
HasCommitted Did old new first last before after = CommitsBatch old new before after
HasCommitted Idle old new first last before after = FindsNoneOpened old new first last

-- ---- the device

-- What the device stands for with these counts over this disk.
abbrev pub with_disk : JournalCounts → JournaledDisk → JournalStanding → JournalStanding
with_disk counts disk w = record w { counts = counts; disk = disk }

-- The counts are those after a commit, and the disk has the batch. The tags are those of what is placed.
pub record HasBatch (w : JournalStanding) (old new : PlacedRing) (store : Store) (before after : List Content)
    : Type 0 where
  pub counts : JournalCounts
  pub counts_are : commit w.format.sections w.counts ≡ Some counts
  pub bytes : List ℕ
  pub stands : StandsAs (with_disk counts (after_commit w.disk (next_batch old.ring) bytes) w)
      new store after
  pub gives : TagsPlaced w.disk (after_commit w.disk (next_batch old.ring) bytes) store store before after

-- The counts have nothing to commit, and the device stands for the same.
pub record HasNoBatch (w : JournalStanding) (new : PlacedRing) (store : Store) (before after : List Content)
    : Type 0 where
  pub none : commit w.format.sections w.counts ≡ None
  pub stands : StandsAs w new store after
  pub gives : TagsPlaced w.disk w.disk store store before after

-- So the device has committed.
abbrev pub CommitsAs : Moved → JournalStanding → (old new : PlacedRing) → Store → (before after : List Content)
    → Type 0
CommitsAs Did w old new store before after = HasBatch w old new store before after
CommitsAs Idle w old new store before after = HasNoBatch w new store before after

-- ---- all is committed

-- The journal with its next batch committed, if these are some opened sections.
abbrev pub after_batch_of : List (List Entry) → PlacedRing → PlacedRing
after_batch_of [] journal = journal
after_batch_of (entries ∷ opened) journal = after_batch journal

-- So, if it has some.
abbrev pub after_one : PlacedRing → PlacedRing
after_one journal = after_batch_of journal.ring.opened journal

-- All of it is committed: a batch ends at the journal's end, so there are two at most.
abbrev pub after_flush : PlacedRing → PlacedRing
after_flush journal = after_one (after_one journal)

-- The device has committed all, over a disk of the same format. So all is flushed: after its last write, or at the
-- end of the one under way.
pub record HasFlushed (w : JournalStanding) (new : PlacedRing) (store : Store) (before after : List Content)
    : Type 0 where
  pub disk : JournaledDisk
  pub format : disk.format ≡ w.disk.format
  pub gives : TagsPlaced w.disk disk store store before after
  pub committed : StandsAs (with_disk (commit_all w.counts) disk w) new store after
  pub flushed : w.history.pending ≡ None
      → StandsAs (record (with_disk (commit_all w.counts) disk w) { history = with_change w.history Flushed })
      new store after
  pub written : (h : History) (write : BlockWrite) → w.history ≡ with_change h (Begun write)
      → StandsAs (record (with_disk (commit_all w.counts) disk w) {
        history = with_change (with_change h (Written write)) Flushed;
      })
      new store after

-- One batch was written, or it and then the next one: no sector gets a candidate but those of them.
pub record WritesTwo (journal : PlacedRing) (before after : List Content) : Type 0 where
  pub middle : List Content
  pub first : WritesBatch journal.ring before middle
  pub second : WritesBatch (after_one journal).ring middle after

abbrev pub WritesBatches : PlacedRing → (before after : List Content) → Type 0
WritesBatches journal before after = WritesBatch journal.ring before after ⊎ WritesTwo journal before after
