-- What each event does to a device in journal mode, and what the code has to do for it.
use Rattle.std.specs.Prelude.{◌≡◌, ℕ, suc, ◌+◌, ◌<◌, Bool, true, false, List, [], length, get_or, Some, None, slice_get}
use Rattle.device_model.specs.History.{BlockWrite, Begun, with_change}
use Rattle.device_model.specs.Journal.{SectionCounts, JournalCounts}
use Rattle.device_model.specs.Mode.{DeviceFormat}
use Rattle.device_model.specs.Progress.{Working, FailedServe, FailedStep, FailedClose, DeviceState, Event, Submit, Serve, Step, Take, Close, Commit, Place, Settle, Clean, Recalc, NoRoom, Did, Idle, is_flushed_by, event_result, after_event}
use Rattle.device_model.specs.Request.{Read, Write, Flush, Asked, Unfinished, held_by}
use Rattle.device_model.specs.RoomLaws.{commits}
use Rattle.disk_model.specs.Disk.{Image}
use Rattle.place_model.specs.Format.{DiskFormat}
use Rattle.place_model.specs.Left.{IsLeftInJournal}
use Rattle.journal_model.specs.HistoryOf.{entry_of_write}
use Rattle.journal_model.specs.JournaledDisk.{JournaledDisk}
use Rattle.journal_model.specs.Ring.{JournalRing, has_room, with_put, next_batch, IsNextBatch, with_commit, with_settle}
use Rattle.journal_model.specs.Steps.{IsBatch, after_commit, after_place, after_settle}
use Rattle.journal_laws.specs.Device.{placed_count, IsJournalOf, IsJournalDevice}

-- The device works, and this is its unfinished request at place k, which no other holds.
pub record IsServed (s : DeviceState) (k : ℕ) (a : Asked) : Type 0 where
  pub works : s.condition ≡ Working
  pub there : slice_get s.progress.requests k ≡ Some a
  pub unfinished : a.state ≡ Unfinished
  pub unheld : held_by s.progress.requests k a.request ≡ None

-- The write of the next block of a request at place k.
abbrev pub next_write : (k first : ℕ) → List (List ℕ) → ℕ → BlockWrite
next_write k first blocks served = record {
  ticket = suc k;
  block = first + served;
  bytes = get_or blocks served [];
}

-- ---- serve

-- The next block of a write is one of the device, whole, and no other write is under way.
pub record HasNextBlock (f : DeviceFormat) (s : DeviceState) (first : ℕ) (blocks : List (List ℕ))
    (served : ℕ) : Type 0 where
  pub idle : s.history.pending ≡ None
  pub inside : first + served < f.blocks.blocks
  pub whole : length (get_or blocks served []) ≡ f.blocks.block_size

-- A write finds no room where the ring has none,
abbrev pub NoRoomLaw : Type 0
NoRoomLaw = (f : DeviceFormat) (s : DeviceState) (d : JournaledDisk) (r : JournalRing) (k : ℕ) (a : Asked)
    (first : ℕ) (blocks : List (List ℕ)) (fua : Bool) → IsJournalDevice f s d r → IsServed s k a
    → a.request ≡ Write first blocks fua → has_room r ≡ false
    → (event_result f s (Serve (suc k))).answer ≡ NoRoom

-- and else its next block is put,
abbrev pub ServeWriteLaw : Type 0
ServeWriteLaw = (f : DeviceFormat) (s : DeviceState) (d : JournaledDisk) (r : JournalRing) (k : ℕ)
    (a : Asked) (first : ℕ) (blocks : List (List ℕ)) (fua : Bool) → IsJournalDevice f s d r → IsServed s k a
    → a.request ≡ Write first blocks fua → HasNextBlock f s first blocks a.served
    → has_room r ≡ true → is_flushed_by a blocks fua ≡ false
    → IsJournalDevice f (after_event f s (Serve (suc k))) d
    (with_put (entry_of_write d (next_write k first blocks a.served)) r)

-- What a write that is to be flushed does with its last block: it is under way once it is put, and done once commits leave
-- no section opened.
pub record ServesFlushed (f : DeviceFormat) (s : DeviceState) (d : JournaledDisk) (r : JournalRing)
    (k : ℕ) (write : BlockWrite) : Type 0 where
  pub sections : List SectionCounts
  pub put_is : IsJournalOf f (with_change s.history (Begun write))
      (record s.progress.journal { sections = sections }) d (with_put (entry_of_write d write) r)
  pub done : (n : ℕ) (d' : JournaledDisk) (r' : JournalRing)
      → IsJournalOf f (with_change s.history (Begun write))
      (commits f.sections n (record s.progress.journal { sections = sections })) d' r' → r'.opened ≡ []
      → IsJournalDevice f (after_event f s (Serve (suc k))) d' r'

-- It does so where the ring has room.
abbrev pub ServeFlushedLaw : Type 0
ServeFlushedLaw = (f : DeviceFormat) (s : DeviceState) (d : JournaledDisk) (r : JournalRing) (k : ℕ)
    (a : Asked) (first : ℕ) (blocks : List (List ℕ)) (fua : Bool) → IsJournalDevice f s d r → IsServed s k a
    → a.request ≡ Write first blocks fua → HasNextBlock f s first blocks a.served
    → has_room r ≡ true → is_flushed_by a blocks fua ≡ true
    → ServesFlushed f s d r k (next_write k first blocks a.served)

-- A flush commits until no section is opened.
abbrev pub ServeFlushLaw : Type 0
ServeFlushLaw = (f : DeviceFormat) (s : DeviceState) (k : ℕ) (a : Asked) (n : ℕ) (d' : JournaledDisk)
    (r' : JournalRing) → IsServed s k a → a.request ≡ Flush → s.history.pending ≡ None
    → IsJournalOf f s.history (commits f.sections n s.progress.journal) d' r' → r'.opened ≡ []
    → IsJournalDevice f (after_event f s (Serve (suc k))) d' r'

-- A read changes nothing of it.
abbrev pub ServeReadLaw : Type 0
ServeReadLaw = (f : DeviceFormat) (s : DeviceState) (d : JournaledDisk) (r : JournalRing) (k : ℕ)
    (a : Asked) (first count : ℕ) → IsJournalDevice f s d r → IsServed s k a → a.request ≡ Read first count
    → IsJournalDevice f (after_event f s (Serve (suc k))) d r

-- ---- steps

-- A commit that did something wrote the next batch,
abbrev pub StepCommitLaw : Type 0
StepCommitLaw = (f : DeviceFormat) (s : DeviceState) (d : JournaledDisk) (r : JournalRing) (bytes : List ℕ)
    → IsJournalDevice f s d r → (event_result f s (Step Commit)).answer ≡ Did → IsNextBatch r bytes
    → IsBatch d (next_batch r) bytes
    × IsJournalDevice f (after_event f s (Step Commit)) (after_commit d (next_batch r) bytes) (with_commit r)

-- a place the next entry,
abbrev pub StepPlaceLaw : Type 0
StepPlaceLaw = (f : DeviceFormat) (s : DeviceState) (d : JournaledDisk) (r : JournalRing)
    → IsJournalDevice f s d r → (event_result f s (Step Place)).answer ≡ Did → d.placed < length d.entries
    × IsJournalDevice f (after_event f s (Step Place)) (after_place d) r

-- and a settle freed sections.
abbrev pub StepSettleLaw : Type 0
StepSettleLaw = (f : DeviceFormat) (s : DeviceState) (d : JournaledDisk) (r : JournalRing)
    → IsJournalDevice f s d r → (event_result f s (Step Settle)).answer ≡ Did
    → IsJournalDevice f (after_event f s (Step Settle)) (after_settle d) (with_settle (placed_count d r) r)

-- They are idle exactly where the ring and the disk say so.
pub record IsIdleAs (f : DeviceFormat) (s : DeviceState) (d : JournaledDisk) (r : JournalRing) : Type 0 where
  pub none_opened : r.opened ≡ [] → (event_result f s (Step Commit)).answer ≡ Idle
  pub commit_idle : (event_result f s (Step Commit)).answer ≡ Idle → r.opened ≡ []
  pub all_placed : d.placed ≡ length d.entries → (event_result f s (Step Place)).answer ≡ Idle
  pub place_idle : (event_result f s (Step Place)).answer ≡ Idle → d.placed ≡ length d.entries
  pub settle_idle : (event_result f s (Step Settle)).answer ≡ Idle → with_settle (placed_count d r) r ≡ r

-- So it is on a device that works.
abbrev pub IdleLaw : Type 0
IdleLaw = (f : DeviceFormat) (s : DeviceState) (d : JournaledDisk) (r : JournalRing)
    → IsJournalDevice f s d r → s.condition ≡ Working → IsIdleAs f s d r

-- ---- the others

-- An event that neither changes the history nor the journal's counts changes nothing of it,
abbrev pub QuietLaw : Type 0
QuietLaw = (f : DeviceFormat) (s : DeviceState) (event : Event) (d : JournaledDisk) (r : JournalRing)
    → IsJournalDevice f s d r → (event_result f s event).changes ≡ []
    → (event_result f s event).progress.journal ≡ s.progress.journal
    → IsJournalDevice f (after_event f s event) d r

-- A call that neither writes a block, nor commits, places, settles or closes; a step or a close in which a disk fails is one.
abbrev pub IsQuiet : Event → Type 0
IsQuiet (Submit submission) = Unit {0}
IsQuiet (Serve ticket) = ⊥
IsQuiet (Step Commit) = ⊥
IsQuiet (Step Place) = ⊥
IsQuiet (Step Settle) = ⊥
IsQuiet (Step Clean) = Unit {0}
IsQuiet (Step Recalc) = Unit {0}
IsQuiet (Take ticket) = Unit {0}
IsQuiet Close = ⊥
IsQuiet (FailedServe ticket) = ⊥
IsQuiet (FailedStep actor) = Unit {0}
IsQuiet FailedClose = Unit {0}

-- and these are such.
abbrev pub QuietEventsLaw : Type 0
QuietEventsLaw = (f : DeviceFormat) (s : DeviceState) (event : Event) (d : JournaledDisk) (r : JournalRing)
    → IsJournalDevice f s d r → IsQuiet event → IsJournalDevice f (after_event f s event) d r

-- A close has all flushed once no section is opened, whatever is placed and settled besides.
abbrev pub CloseLaw : Type 0
CloseLaw = (f : DeviceFormat) (s : DeviceState) (j' : JournalCounts) (d' : JournaledDisk) (r' : JournalRing)
    → s.condition ≡ Working → s.history.pending ≡ None → IsJournalOf f s.history j' d' r' → r'.opened ≡ []
    → IsJournalOf f (after_event f s Close).history j' d' r'

-- ---- a disk that fails

-- A serve in which a disk fails leaves a write under way that had room,
abbrev pub FailedServeLaw : Type 0
FailedServeLaw = (f : DeviceFormat) (s : DeviceState) (d : JournaledDisk) (r : JournalRing) (k : ℕ)
    (a : Asked) (first : ℕ) (blocks : List (List ℕ)) (fua : Bool) → IsJournalDevice f s d r → IsServed s k a
    → a.request ≡ Write first blocks fua → has_room r ≡ true
    → (after_event f s (FailedServe (suc k))).history
    ≡ with_change s.history (Begun (next_write k first blocks a.served))

-- and whatever fails, what was left before may be left of the device that is broken then.
abbrev pub FailedLeftLaw : Type 0
FailedLeftLaw = (f : DeviceFormat) (s : DeviceState) (ticket : ℕ) (d : DiskFormat) (image : Image)
    → s.history.pending ≡ None → IsLeftInJournal d s.history image
    → IsLeftInJournal d (after_event f s (FailedServe ticket)).history image
