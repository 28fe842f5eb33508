-- The ring of the sections of a journal, and what it says of the disk below.
-- Own: sections are opened, committed and freed in the order of the ring.
use Rattle.std.specs.Prelude.{◌≡◌, ◌⊎◌, ◌↔◌, ℕ, ◌+◌, ◌-◌, ◌<◌, ◌≤◌, min, ltb, leb, Bool, true, false, not, ◌&&◌, ◌||◌, if◌then◌else◌, List, [], ◌∷◌, ◌++◌, length, take, drop, get_or}
use Rattle.std.specs.List.{AllByRecursion, flat_map}
use Rattle.image_model.specs.Cells.{salt_of}
use Rattle.image_model.specs.Geometry.{Geometry, section_entries}
use Rattle.image_model.specs.Section.{Entry}
use Rattle.journal_model.specs.Cuts.{next_after, number_after}
use Rattle.journal_model.specs.Entries.{IsBlockEntry}
use Rattle.journal_model.specs.Batch.{AreSections}
use Rattle.journal_model.specs.JournaledDisk.{JournaledDisk, IsSound, Rests}
use Rattle.journal_model.specs.Steps.{IsBatch, IsFreeBut, batch_entries, after_commit}

-- Where the next batch begins and with which number, and the entries of each section in order: of those that are
-- committed and not free, and of those that are opened and not committed. The last of these is closed where no entry
-- goes into it any more.
pub record JournalRing : Type 0 where
  pub geometry : Geometry
  pub next : ℕ
  pub number : ℕ
  pub committed : List (List Entry)
  pub opened : List (List Entry)
  pub closed : Bool

-- The ring of a journal where no section is opened yet, and all are free.
abbrev pub empty_ring : Geometry → ℕ → ℕ → JournalRing
empty_ring g next number = record {
  geometry = g;
  next = next;
  number = number;
  committed = [];
  opened = [];
  closed = true;
}

-- The entries of some sections, in order.
abbrev pub entries_of : List (List Entry) → List Entry
entries_of sections = flat_map (λ entries. entries) sections

-- The entries that are not committed.
abbrev pub uncommitted_entries : JournalRing → List Entry
uncommitted_entries ring = entries_of ring.opened

-- ---- an entry is put

-- The last of some opened sections of so many entries is neither full nor closed.
abbrev pub takes_more : ℕ → Bool → List (List Entry) → Bool
takes_more entries closed [] = false
takes_more entries closed (x ∷ []) = not closed && ltb (length x) entries
takes_more entries closed (x ∷ y ∷ opened) = takes_more entries closed (y ∷ opened)

-- So is the last opened section of the ring.
abbrev pub has_open_section : JournalRing → Bool
has_open_section ring = takes_more (section_entries ring.geometry.shape) ring.closed ring.opened

-- The last section has one entry more.
abbrev pub put_last : Entry → List (List Entry) → List (List Entry)
put_last entry [] = []
put_last entry (x ∷ []) = (x ++ entry ∷ []) ∷ []
put_last entry (x ∷ y ∷ opened) = x ∷ put_last entry (y ∷ opened)

-- There is room for an entry: in the last section, or in the next, which is free.
abbrev pub has_room : JournalRing → Bool
has_room ring = has_open_section ring || ltb (length ring.opened + length ring.committed) ring.geometry.sections

-- The ring with one entry more.
abbrev pub with_put : Entry → JournalRing → JournalRing
with_put entry ring = record ring {
  opened = if has_open_section ring then put_last entry ring.opened else ring.opened ++ (entry ∷ []) ∷ [];
  closed = if has_open_section ring then ring.closed else false;
}

-- A section is free for the next entry.
abbrev pub HasFreeSection : JournalRing → Type 0
HasFreeSection ring = length ring.opened + length ring.committed < ring.geometry.sections

-- There is room exactly where one is, or the last section is open.
abbrev pub FreeSectionLaw : Type 0
FreeSectionLaw = (ring : JournalRing)
    → has_room ring ≡ true ↔ (has_open_section ring ≡ true) ⊎ HasFreeSection ring

-- ---- a commit

-- How many sections the next batch has: those that are opened, up to the journal's end.
abbrev pub next_batch : JournalRing → ℕ
next_batch ring = min (length ring.opened) (ring.geometry.sections - ring.next)

-- The entries of the opened section that lies here.
abbrev pub opened_at : JournalRing → ℕ → List Entry
opened_at ring section = get_or ring.opened (section - ring.next) []

-- The bytes are those of the sections of the next batch.
abbrev pub IsNextBatch : JournalRing → List ℕ → Type 0
IsNextBatch ring bytes =
    AreSections ring.geometry.shape ring.next ring.number (next_batch ring) (opened_at ring) bytes

-- The ring after the batch is committed: no entry goes into what is left open.
abbrev pub with_commit : JournalRing → JournalRing
with_commit ring = record ring {
  next = next_after ring.geometry.sections ring.next (next_batch ring);
  number = number_after ring.geometry.sections ring.next (next_batch ring) ring.number;
  committed = ring.committed ++ take (next_batch ring) ring.opened;
  opened = drop (next_batch ring) ring.opened;
  closed = true;
}

-- ---- a settle

-- The sections from the first on that has an entry behind the first `placed` ones.
abbrev pub unplaced_from : ℕ → List (List Entry) → List (List Entry)
unplaced_from placed [] = []
unplaced_from placed (x ∷ sections) =
    if leb (length x) placed then unplaced_from (placed - length x) sections else x ∷ sections

-- The ring after a settle of so many placed entries: the first sections, which are wholly placed, are free.
abbrev pub with_settle : ℕ → JournalRing → JournalRing
with_settle placed ring = record ring { committed = unplaced_from placed ring.committed }

-- ---- the disk below

-- The ring of a disk: it goes on where the journal does, the committed sections are the only ones with entries that are
-- not settled, and it has room for those that are opened, whose entries are of whole blocks.
pub record IsRingOf (ring : JournalRing) (d : JournaledDisk) : Type 0 where
  pub geometry : ring.geometry ≡ d.geometry
  pub next : ring.next ≡ d.next
  pub number : ring.number ≡ d.number
  pub rests : Rests d
  pub free : IsFreeBut d (length ring.committed)
  pub fits : length ring.opened + length ring.committed ≤ d.geometry.sections
  pub each : AllByRecursion (AllByRecursion (IsBlockEntry d.key (salt_of d.superblock) d.geometry)) ring.opened

-- The sections of a ring are a batch of its disk, and after it is committed the ring is that of the disk then.
abbrev pub RingLaw : Type 0
RingLaw = (ring : JournalRing) (d : JournaledDisk) (entries : ℕ → List Entry) (bytes : List ℕ) → IsSound d
    → IsRingOf ring d → AreSections d.geometry.shape d.next d.number (next_batch ring) entries bytes
    → batch_entries d (next_batch ring) bytes ≡ entries_of (take (next_batch ring) ring.opened)
    → IsBatch d (next_batch ring) bytes
    × IsRingOf (with_commit ring) (after_commit d (next_batch ring) bytes)
