-- The next batch, and what a commit of it does.
use Rattle.std.specs.Prelude.{◌≡◌, ℕ, ◌+◌, ◌-◌, min, true, List, take}
use Rattle.disk_model.specs.Disk.{Content, IsOfRun, OnlyAdds, newest_only, with_run}
use Rattle.disk_model.specs.Moments.{EachSince, HasNow, IsChangedBy}
use Rattle.image_model.specs.Geometry.{section_at}
use Rattle.image_model.specs.Section.{Entry}
use Rattle.journal_model.specs.Cuts.{number_after}
use Rattle.journal_model.specs.JournaledDisk.{JournaledDisk, StandsFor}
use Rattle.journal_model.specs.Ring.{JournalRing, entries_of, next_batch, IsNextBatch, IsRingOf, with_commit}
use Rattle.journal_model.specs.Steps.{IsBatch, after_commit}
use Rattle.journal_ring.specs.declared.marks.Marks.{Marks}
use Rattle.journal_ring.specs.declared.ring.Moved.{Moved}
use Rattle.journal_ring.specs.declared.ring.Moved.TheVariants.{Did, Idle}
use Rattle.journal_ring.specs.Sections.{wrap}

-- Where the next batch begins, by where the sections lie,
abbrev pub next_of : ℕ → Marks → ℕ
next_of sections m = wrap sections (m.first + m.committed)

-- how many sections it has,
abbrev pub batch_of : ℕ → Marks → ℕ
batch_of sections m = min m.opened (sections - next_of sections m)

-- and where they lie after it.
abbrev pub committed_marks : ℕ → Marks → Marks
committed_marks sections m = record m {
  committed = m.committed + batch_of sections m;
  opened = m.opened - batch_of sections m;
  number = number_after sections (next_of sections m) (batch_of sections m) m.number;
  closed = true;
}

-- ---- what a contract says

-- The ring after a commit: it has moved on, or nothing was to be done.
abbrev pub after_move : Moved → JournalRing → JournalRing
after_move Did ring = with_commit ring
after_move Idle ring = ring

-- The entries of the next batch.
abbrev pub next_entries : JournalRing → List Entry
next_entries ring = entries_of (take (next_batch ring) ring.opened)

-- The bytes of the next batch were written where its first section lies, and synced.
pub record HasWritten (ring : JournalRing) (before after : List Content) : Type 0 where
  pub bytes : List ℕ
  pub batch : IsNextBatch ring bytes
  pub written : IsChangedBy
      (λ c. newest_only (with_run (section_at ring.geometry ring.next) bytes c)) before after

-- A commit wrote it, or left the disk alone.
abbrev pub HasMoved : Moved → JournalRing → List Content → List Content → Type 0
HasMoved Did ring before after = HasWritten ring before after
HasMoved Idle ring before after = after ≡ before

-- Nothing gets a candidate but the sectors of the batch, and that is their new bytes.
pub record WritesBatch (ring : JournalRing) (before after : List Content) : Type 0 where
  pub bytes : List ℕ
  pub batch : IsNextBatch ring bytes
  pub adds : EachSince (OnlyAdds (IsOfRun (section_at ring.geometry ring.next) bytes)) before after

-- A disk that the ring was one of has the batch, and the ring that has moved on is one of the disk then.
pub record HasCommitted (d : JournaledDisk) (old new : JournalRing) (after : List Content) : Type 0 where
  pub bytes : List ℕ
  pub batch : IsBatch d (next_batch old) bytes
  pub stands : HasNow (StandsFor (after_commit d (next_batch old) bytes)) after
  pub ring : IsRingOf new (after_commit d (next_batch old) bytes)
