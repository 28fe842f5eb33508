-- The overlay of a device in journal mode: the newest entry of each block, of those in no free section.
-- Own: entries are numbered from the opening on, so a number never changes.
use Rattle.std.specs.Prelude.{◌≡◌, ℕ, suc, ◌+◌, ◌<◌, ◌≤◌, ◌==◌, ◌*◌, ltb, if◌then◌else◌, Option, Some, None, List, ◌++◌, length, take, drop, slice_get}
use Rattle.image_model.specs.Cells.{last_entry}
use Rattle.image_model.specs.Geometry.{Geometry}
use Rattle.image_model.specs.Section.{Entry}
use Rattle.device_model.specs.History.{History, cells_now}
use Rattle.device_model.specs.Journal.{JournalCounts}
use Rattle.device_model.specs.Mode.{DeviceFormat}
use Rattle.journal_model.specs.Entries.{cell_of}
use Rattle.journal_model.specs.JournaledDisk.{JournaledDisk, IsSound}
use Rattle.journal_model.specs.Ring.{JournalRing, entries_of, uncommitted_entries, empty_ring, with_put, next_batch, with_commit, with_settle}
use Rattle.journal_model.specs.Steps.{batch_entries, after_commit, after_place, after_settle}
use Rattle.journal_laws.specs.Device.{freed_count, placed_count, IsJournalRing, IsJournalOf}
use Rattle.journal_laws.specs.PromiseLaws.{newest_entry}

-- All entries since the opening, the uncommitted ones last.
abbrev pub all_entries : JournaledDisk → JournalRing → List Entry
all_entries d r = d.entries ++ uncommitted_entries r

-- Entry m is the newest one of block b: no other one of it is behind.
pub record IsNewestAt (g : Geometry) (entries : List Entry) (b m : ℕ) : Type 0 where
  pub entry : Entry
  pub there : slice_get entries m ≡ Some entry
  pub block : entry.sector ≡ b * g.shape.spb
  pub none_behind : last_entry g (drop (suc m) entries) b ≡ None

-- The overlay tells of each block its newest entry that is in no free section, and none where there is none.
pub record IsOverlayOf (d : JournaledDisk) (r : JournalRing) (newest : ℕ → Option ℕ) : Type 0 where
  pub there : (b m : ℕ) → newest b ≡ Some m → IsNewestAt d.geometry (all_entries d r) b m
  pub kept : (b m : ℕ) → newest b ≡ Some m → freed_count d r ≤ m
  pub none : (b : ℕ) → newest b ≡ None
      → last_entry d.geometry (drop (freed_count d r) (all_entries d r)) b ≡ None

-- No block has an entry.
abbrev pub none_newest : ℕ → Option ℕ
none_newest b = None

-- The same with a newest entry of one block.
abbrev pub with_newest : ℕ → ℕ → (ℕ → Option ℕ) → ℕ → Option ℕ
with_newest block m newest b = if block == b then Some m else newest b

-- Without the entries before the m-th.
abbrev pub kept_from : ℕ → Option ℕ → Option ℕ
kept_from m None = None
kept_from m (Some n) = if ltb n m then None else Some n

-- At opening it tells none,
abbrev pub OverlayBegins : Type 0
OverlayBegins = (d : JournaledDisk) (g : Geometry) (next number : ℕ)
    → IsOverlayOf d (empty_ring g next number) none_newest

-- of a block that is put the entry behind all others,
abbrev pub OverlayPut : Type 0
OverlayPut = (d : JournaledDisk) (r : JournalRing) (newest : ℕ → Option ℕ) (b : ℕ) (entry : Entry)
    → entry.sector ≡ b * d.geometry.shape.spb → 1 ≤ d.geometry.shape.spb → IsOverlayOf d r newest
    → IsOverlayOf d (with_put entry r) (with_newest b (length (all_entries d r)) newest)

-- after a commit, and while entries are placed, what it told,
abbrev pub OverlayCommitted : Type 0
OverlayCommitted = (d : JournaledDisk) (r : JournalRing) (newest : ℕ → Option ℕ) (bytes : List ℕ)
    → batch_entries d (next_batch r) bytes ≡ entries_of (take (next_batch r) r.opened) → IsOverlayOf d r newest
    → IsOverlayOf (after_commit d (next_batch r) bytes) (with_commit r) newest
    × IsOverlayOf (after_place d) r newest

-- and after a settle that without the entries of freed sections.
abbrev pub OverlaySettled : Type 0
OverlaySettled = (d : JournaledDisk) (r : JournalRing) (newest : ℕ → Option ℕ) → IsOverlayOf d r newest
    → IsOverlayOf (after_settle d) (with_settle (placed_count d r) r)
    (λ b. kept_from (freed_count d (with_settle (placed_count d r) r)) (newest b))

-- So a block holds what the entry that it tells says, and where it tells none no section has one.
abbrev pub OverlayReadLaw : Type 0
OverlayReadLaw = (f : DeviceFormat) (h : History) (j : JournalCounts) (d : JournaledDisk) (r : JournalRing)
    (newest : ℕ → Option ℕ) (b : ℕ) → IsJournalOf f h j d r → h.pending ≡ None → b < f.blocks.blocks
    → IsOverlayOf d r newest
    → ((m : ℕ) → newest b ≡ Some m
    → (entry : Entry) × (slice_get (all_entries d r) m ≡ Some entry) × (cells_now f.blocks.tag h b ≡ cell_of entry))
    × (newest b ≡ None → newest_entry d r b ≡ None)

-- Entry n of section i, of those that are not free, has this number.
abbrev pub PlaceNumberLaw : Type 0
PlaceNumberLaw = (d : JournaledDisk) (r : JournalRing) (i n : ℕ) (entries : List Entry) (entry : Entry)
    → IsSound d → IsJournalRing d r → slice_get (r.committed ++ r.opened) i ≡ Some entries
    → slice_get entries n ≡ Some entry → slice_get (all_entries d r)
    (freed_count d r + (length (entries_of (take i (r.committed ++ r.opened))) + n)) ≡ Some entry
