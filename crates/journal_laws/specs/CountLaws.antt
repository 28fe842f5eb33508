-- What each step does to a device in journal mode: to its counts, its disk and its ring.
use Rattle.std.specs.Prelude.{◌≡◌, ℕ, ◌<◌, List, [], length, Option, Some, None, is_some, filter_map}
use Rattle.image_model.specs.Geometry.{Shape}
use Rattle.image_model.specs.Section.{Entry}
use Rattle.device_model.specs.History.{BlockWrite, History, Written, Flushed, with_change, Begun}
use Rattle.device_model.specs.Journal.{SectionCounts, JournalCounts, put, commit, commit_all, place, settle}
use Rattle.device_model.specs.Mode.{DeviceFormat}
use Rattle.device_model.specs.RoomLaws.{commits}
use Rattle.journal_model.specs.Batch.{IsSection}
use Rattle.journal_model.specs.HistoryOf.{entry_of_write}
use Rattle.journal_model.specs.JournaledDisk.{JournaledDisk}
use Rattle.journal_model.specs.Ring.{JournalRing, has_room, with_put, next_batch, IsNextBatch, with_commit, with_settle}
use Rattle.journal_model.specs.Steps.{IsBatch, after_commit, after_place, after_settle}
use Rattle.image_model.specs.Entries.{HoldsEntries, BearsNumber}
use Rattle.journal_laws.specs.Device.{placed_count, IsJournalRing, IsJournalOf}

-- ---- put

-- The counts have room for an entry exactly where the ring does.
abbrev pub HasRoomLaw : Type 0
HasRoomLaw = (f : DeviceFormat) (h : History) (j : JournalCounts) (d : JournaledDisk) (r : JournalRing)
    (b : ℕ) → IsJournalOf f h j d r
    → is_some (put f.sections f.entries b j.sections) ≡ has_room r

-- A write of a block that is put is the one under way, and one of the writes once that is done.
abbrev pub PutLaw : Type 0
PutLaw = (f : DeviceFormat) (h : History) (j : JournalCounts) (sections : List SectionCounts)
    (d : JournaledDisk) (r : JournalRing) (write : BlockWrite) → IsJournalOf f h j d r → h.pending ≡ None
    → write.block < f.blocks.blocks → length write.bytes ≡ f.blocks.block_size
    → put f.sections f.entries write.block j.sections ≡ Some sections
    → IsJournalOf f (with_change h (Begun write))
    (record j { sections = sections }) d (with_put (entry_of_write d write) r)
    × IsJournalOf f (with_change h (Written write))
    (record j { sections = sections }) d (with_put (entry_of_write d write) r)

-- ---- commit

-- Nothing is to be committed exactly where no section is opened.
abbrev pub IdleCommitLaw : Type 0
IdleCommitLaw = (f : DeviceFormat) (h : History) (j : JournalCounts) (d : JournaledDisk) (r : JournalRing)
    → IsJournalOf f h j d r
    → ((r.opened ≡ [] → commit f.sections j ≡ None) × (commit f.sections j ≡ None → r.opened ≡ []))

-- A commit writes one batch, from `next` on: the opened sections, up to the journal's end.
abbrev pub CommitLaw : Type 0
CommitLaw = (f : DeviceFormat) (h : History) (j j' : JournalCounts) (d : JournaledDisk) (r : JournalRing)
    (bytes : List ℕ) → IsJournalOf f h j d r → commit f.sections j ≡ Some j' → IsNextBatch r bytes
    → IsBatch d (next_batch r) bytes
    × IsJournalOf f h j' (after_commit d (next_batch r) bytes) (with_commit r)

-- Two commits leave no section opened.
abbrev pub TwoCommitsLaw : Type 0
TwoCommitsLaw = (d : JournaledDisk) (r : JournalRing) → IsJournalRing d r → (with_commit (with_commit r)).opened ≡ []

-- Sealed bytes of a section that hold entries are that section of a batch.
abbrev pub SealedLaw : Type 0
SealedLaw = (shape : Shape) (section number : ℕ) (entries : List (Option Entry)) (bytes : List ℕ)
    → HoldsEntries shape entries bytes → BearsNumber shape section number bytes
    → IsSection shape section number (filter_map (λ entry. entry) entries) bytes

-- ---- flush

-- Once no section is opened all is flushed.
abbrev pub FlushLaw : Type 0
FlushLaw = (f : DeviceFormat) (h : History) (j : JournalCounts) (d : JournaledDisk) (r : JournalRing)
    → IsJournalOf f h j d r → r.opened ≡ [] → h.pending ≡ None → IsJournalOf f (with_change h Flushed) j d r

-- The same at the end of a write whose entry was put and committed while it was under way.
abbrev pub FlushWriteLaw : Type 0
FlushWriteLaw = (f : DeviceFormat) (h : History) (j : JournalCounts) (d : JournaledDisk) (r : JournalRing)
    (write : BlockWrite) → IsJournalOf f (with_change h (Begun write)) j d r → r.opened ≡ []
    → IsJournalOf f (with_change (with_change h (Written write)) Flushed) j d r

-- Commits until none is left give the counts of a flush.
abbrev pub CommitsLaw : Type 0
CommitsLaw = (f : DeviceFormat) (h : History) (j : JournalCounts) (n : ℕ) (d : JournaledDisk)
    (r : JournalRing) → IsJournalOf f h (commits f.sections n j) d r → r.opened ≡ []
    → commits f.sections n j ≡ commit_all j

-- ---- place

-- A place writes the next entry of the disk,
abbrev pub PlaceLaw : Type 0
PlaceLaw = (f : DeviceFormat) (h : History) (j j' : JournalCounts) (d : JournaledDisk) (r : JournalRing)
    → IsJournalOf f h j d r → place j ≡ Some j' → d.placed < length d.entries
    × IsJournalOf f h j' (after_place d) r

-- and is idle exactly where all are placed.
abbrev pub IdlePlaceLaw : Type 0
IdlePlaceLaw = (f : DeviceFormat) (h : History) (j : JournalCounts) (d : JournaledDisk) (r : JournalRing)
    → IsJournalOf f h j d r
    → ((d.placed ≡ length d.entries → place j ≡ None) × (place j ≡ None → d.placed ≡ length d.entries))

-- ---- settle

-- A settle frees the sections whose entries are all placed, the first ones.
abbrev pub SettleLaw : Type 0
SettleLaw = (f : DeviceFormat) (h : History) (j j' : JournalCounts) (d : JournaledDisk) (r : JournalRing)
    → IsJournalOf f h j d r → settle j ≡ Some j'
    → IsJournalOf f h j' (after_settle d) (with_settle (placed_count d r) r)

-- Where it is idle the ring keeps all its sections.
abbrev pub IdleSettleLaw : Type 0
IdleSettleLaw = (f : DeviceFormat) (h : History) (j : JournalCounts) (d : JournaledDisk) (r : JournalRing)
    → IsJournalOf f h j d r → settle j ≡ None → with_settle (placed_count d r) r ≡ r
