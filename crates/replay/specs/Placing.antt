-- What the calls that bring entries to their places tell of each disk whose entries they are.
use Rattle.std.specs.Prelude.{◌≡◌, ℕ, ◌+◌, ◌/◌, Bool, List}
use Rattle.disk_model.specs.Disk.{Content, last_image}
use Rattle.disk_model.specs.Moments.{EachMoment, HasNow}
use Rattle.image_model.specs.Cells.{replayed_entries}
use Rattle.image_model.specs.Geometry.{Geometry, data_at}
use Rattle.image_model.specs.Section.{Entry}
use Rattle.image_model.specs.Sectors.{bytes_at}
use Rattle.buffer_cache.specs.Cached.{HasNoMark}
use Rattle.journal_model.specs.Entries.{cell_of}
use Rattle.journal_model.specs.JournaledDisk.{JournaledDisk, StandsFor}
use Rattle.journal_reading.specs.declared.reading.JudgedJournal.{JudgedJournal}
use Rattle.journal_reading.specs.Newest.{newest_in}
use Rattle.place_writer.specs.Cells.{HasCells}
use Rattle.tag_store.specs.Store.{Store, given_tags}
use Rattle.replay.specs.Replaying.{AreInPlace, HasAmid, HasTurned, IsReadOn, IsStill, IsToReplay, all_placed, last_cell, without}

-- At each moment of a call the disk stands for all of its entries placed.
abbrev pub StandsPlaced : JournaledDisk → (before after : List Content) → Type 0
StandsPlaced d before after = EachMoment before after (StandsFor (all_placed d))

-- ---- one block

-- The last cell of the entry's block is its own.
abbrev pub HasLastCell : Geometry → Entry → JournaledDisk → Type 0
HasLastCell g entry d = last_cell d (entry.sector / g.shape.spb) ≡ cell_of entry

-- The block's data are no longer ahead, where these are its last ones,
abbrev pub PlacesData : (block : ℕ) → (bytes : List ℕ) → Store → (before after : List Content) → Type 0
PlacesData block bytes store before after = (d : JournaledDisk) (data_ahead tag_ahead : ℕ → Bool)
    → (last_cell d block).bytes ≡ bytes → HasAmid d data_ahead tag_ahead store before
    → HasAmid d (without block data_ahead) tag_ahead store after

-- so its tag,
abbrev pub PlacesTag : (block : ℕ) → (tag : List ℕ) → (old new : Store) → (before after : List Content) → Type 0
PlacesTag block tag old new before after = (d : JournaledDisk) (data_ahead tag_ahead : ℕ → Bool)
    → (last_cell d block).tag ≡ tag → HasAmid d data_ahead tag_ahead old before
    → HasAmid d data_ahead (without block tag_ahead) new after

-- and so both, of an entry's block.
abbrev pub PlacesEntry : Entry → (old new : Store) → (before after : List Content) → Type 0
PlacesEntry entry old new before after = (d : JournaledDisk) (data_ahead tag_ahead : ℕ → Bool)
    → let b = entry.sector / old.geometry.shape.spb in
    HasLastCell old.geometry entry d → HasAmid d data_ahead tag_ahead old before
    → HasAmid d (without b data_ahead) (without b tag_ahead) new after

-- Each disk of which this holds stands for all of its entries placed meanwhile.
abbrev pub StandsAmid : (JournaledDisk → Type 0) → Store → (before after : List Content) → Type 0
StandsAmid P store before after = (d : JournaledDisk) (data_ahead tag_ahead : ℕ → Bool) → P d
    → HasAmid d data_ahead tag_ahead store before → StandsPlaced d before after

-- Where reads give these data of the block, the disk is as it was,
abbrev pub IsStillWithData : Geometry → (block : ℕ) → (bytes : List ℕ) → (before after : List Content) → Type 0
IsStillWithData g block bytes before after =
    HasNow (λ c. bytes_at (last_image c) (data_at g block) g.shape.spb ≡ bytes → after ≡ before) before

-- where the store gives this tag of it all is, unless tags are still to be written,
abbrev pub IsStillWithTag : (block : ℕ) → (tag : List ℕ) → (old new : Store) → (before after : List Content) → Type 0
IsStillWithTag block tag old new before after =
    HasNoMark old.sectors → HasNow (λ c. given_tags old c block ≡ tag → IsStill old new before after) before

-- and where both are so, of an entry's block.
abbrev pub IsStillWithEntry : Entry → (old new : Store) → (before after : List Content) → Type 0
IsStillWithEntry entry old new before after = HasNoMark old.sectors → HasNow (λ c.
    let b = entry.sector / old.geometry.shape.spb in
    bytes_at (last_image c) (data_at old.geometry b) old.geometry.shape.spb ≡ entry.bytes
    → given_tags old c b ≡ entry.tag → IsStill old new before after) before

-- ---- the entries of a journal that was judged and read

-- Of each disk whose journal it is, one number more has had its turn,
abbrev pub TurnsEntry : {D : Type 0} → Geometry → (bytes : List ℕ) → JudgedJournal → (number : ℕ) → (old new : Store)
    → (moments : D → List Content) → (first last : D) → Type 0
TurnsEntry g bytes journal number old new moments first last = (d : JournaledDisk) → IsToReplay d g d.journal
    → IsReadOn g bytes journal d.journal → HasTurned d (newest_in journal.newest) number old (moments first)
    → HasTurned d (newest_in journal.newest) (number + 1) new (moments last)

-- and it stands for all of its entries placed meanwhile.
abbrev pub StandsTurning : Geometry → (bytes : List ℕ) → JudgedJournal → (number : ℕ) → Store
    → (before after : List Content) → Type 0
StandsTurning g bytes journal number store before after = (d : JournaledDisk) → IsToReplay d g d.journal
    → IsReadOn g bytes journal d.journal → HasTurned d (newest_in journal.newest) number store before
    → StandsPlaced d before after

-- All of its entries are placed,
abbrev pub PlacesRead : Geometry → (bytes : List ℕ) → JudgedJournal → (old new : Store) → (before after : List Content)
    → Type 0
PlacesRead g bytes journal old new before after = (d : JournaledDisk) → IsToReplay d g d.journal
    → IsReadOn g bytes journal d.journal → HasCells d old before → HasCells (all_placed d) new after

-- and it stands for that meanwhile.
abbrev pub StandsReading : Geometry → (bytes : List ℕ) → JudgedJournal → Store → (before after : List Content) → Type 0
StandsReading g bytes journal store before after = (d : JournaledDisk) → IsToReplay d g d.journal
    → IsReadOn g bytes journal d.journal → HasCells d store before → StandsPlaced d before after

-- Where they are in place already, all is as it was, unless tags are still to be written.
abbrev pub IsStillRead : Geometry → (bytes : List ℕ) → JudgedJournal → (old new : Store)
    → (before after : List Content) → Type 0
IsStillRead g bytes journal old new before after = HasNoMark old.sectors → HasNow (λ c.
    IsReadOn g bytes journal (last_image c)
    → AreInPlace g (replayed_entries g (last_image c)) (given_tags old c) c → IsStill old new before after) before

-- ---- the entries of the image at the start

-- Of each disk with its journal all entries are placed,
abbrev pub PlacesJournal : Geometry → (old new : Store) → (before after : List Content) → Type 0
PlacesJournal g old new before after = HasNow (λ start. (d : JournaledDisk) → IsToReplay d g (last_image start)
    → HasCells d old before → HasCells (all_placed d) new after) before

-- and it stands for that meanwhile.
abbrev pub StandsPlacing : Geometry → Store → (before after : List Content) → Type 0
StandsPlacing g store before after = HasNow (λ start. (d : JournaledDisk) → IsToReplay d g (last_image start)
    → HasCells d store before → StandsPlaced d before after) before

-- Where they are in place already, all is as it was, unless tags are still to be written.
abbrev pub IsStillJournal : Geometry → (old new : Store) → (before after : List Content) → Type 0
IsStillJournal g old new before after = HasNoMark old.sectors → HasNow (λ c.
    AreInPlace g (replayed_entries g (last_image c)) (given_tags old c) c → IsStill old new before after) before
