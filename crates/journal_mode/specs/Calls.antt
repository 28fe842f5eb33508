-- What the calls of a journal tell of each device that stands as it does.
use Rattle.std.specs.Prelude.{◌≡◌, ◌↔◌, ℕ, Bool, true, false, List, None, is_some}
use Rattle.disk_model.specs.Disk.{Content}
use Rattle.disk_model.specs.Moments.{HasNow}
use Rattle.image_model.specs.Geometry.{region_of}
use Rattle.journal_laws.specs.Device.{IsJournalOf}
use Rattle.journal_model.specs.Ring.{JournalRing}
use Rattle.journal_ring.specs.declared.ring.Moved.{Moved}
use Rattle.recalculate_laws.specs.Taking.{KeepsAwaitingNow}
use Rattle.replay.specs.DirectModeCells.{block_write}
use Rattle.tag_store.specs.Store.{Store, given_tags}
use Rattle.journal_mode.specs.Closing.{HasClosed, HasPlacedMore}
use Rattle.journal_mode.specs.Commits.{CommitsAs, HasFlushed}
use Rattle.journal_mode.specs.Journal.{PlacedRing}
use Rattle.journal_mode.specs.Moves.{PlacesAs, SettlesAs}
use Rattle.journal_mode.specs.Puts.{HasPut, TakesWrite, sections_with}
use Rattle.journal_mode.specs.Reads.{GivesBlock, IsCellNow, KeepsStanding, newest_in}
use Rattle.journal_mode.specs.Standing.{JournalStanding, StandsAs}

-- Where it has no write under way, these are the bytes and the tag of the block,
abbrev pub ReadsEach : PlacedRing → (block : ℕ) → (bytes tag : List ℕ) → Store → List Content → Type 0
ReadsEach journal block bytes tag store moments = (w : JournalStanding) → StandsAs w journal store moments
    → w.history.pending ≡ None → HasNow (λ c. GivesBlock w block bytes tag) moments

-- and so they are with a tag that is to be recalculated, where a section holds the block or the tags of its region are
-- made,
abbrev pub GivesEach : PlacedRing → (block : ℕ) → (bytes tag : List ℕ) → Store → List Content → Type 0
GivesEach journal block bytes tag store moments = (w : JournalStanding) (awaiting : ℕ → Bool)
    → StandsAs w journal store moments → w.history.pending ≡ None
    → KeepsAwaitingNow w.disk awaiting (given_tags store) moments
    → (newest_in journal.ring block ≡ None → awaiting (region_of w.disk.geometry block) ≡ false)
    → HasNow (λ c. IsCellNow w block bytes tag) moments

-- and a read keeps it.
abbrev pub KeepsEach : PlacedRing → (old new : Store) → (before after : List Content) → Type 0
KeepsEach journal old new before after = (w : JournalStanding) → StandsAs w journal old before
    → KeepsStanding w journal old new before after

-- The block is put for it, whoever asked for that,
abbrev pub PutsEach : (block : ℕ) → (bytes tag : List ℕ) → (old new : PlacedRing) → Type 0
PutsEach block bytes tag old new = (w : JournalStanding) (ticket : ℕ) (store : Store) (moments : List Content)
    → TakesWrite w (block_write ticket block bytes) tag old store moments
    → HasPut w (block_write ticket block bytes) new store moments

-- where its counts of sections have room for it.
abbrev pub CountsEach : JournalRing → (block : ℕ) → (has_room : Type 0) → Type 0
CountsEach ring block has_room = (w : JournalStanding) → IsJournalOf w.format w.history w.counts w.disk ring
    → has_room ↔ (is_some (sections_with w block) ≡ true)

-- Its opened sections are committed, or there was none,
abbrev pub CommitsEach : Moved → (old new : PlacedRing) → Store → (before after : List Content) → Type 0
CommitsEach moved old new store before after = (w : JournalStanding) → StandsAs w old store before
    → CommitsAs moved w old new store before after

-- and all of it is flushed.
abbrev pub FlushesEach : (old new : PlacedRing) → Store → (before after : List Content) → Type 0
FlushesEach old new store before after = (w : JournalStanding) → StandsAs w old store before
    → HasFlushed w new store before after

-- Its oldest entry is placed, or there was none,
abbrev pub PlacesEach : Moved → (old new : PlacedRing) → (tags put : Store) → (before after : List Content) → Type 0
PlacesEach moved old new tags put before after = (w : JournalStanding) → StandsAs w old tags before
    → PlacesAs moved w new tags put before after

-- and all of them are.
abbrev pub PlacesAll : (old new : PlacedRing) → (tags put : Store) → (before after : List Content) → Type 0
PlacesAll old new tags put before after = (w : JournalStanding) → StandsAs w old tags before
    → HasPlacedMore w new tags put before after

-- Its placed sections are settled, or there was none.
abbrev pub SettlesEach : Moved → (old new : PlacedRing) → (tags put : Store) → (before after : List Content) → Type 0
SettlesEach moved old new tags put before after = (w : JournalStanding) → StandsAs w old tags before
    → SettlesAs moved w new tags put before after

-- It is closed, where it has no write under way.
abbrev pub ClosesEach : (old new : PlacedRing) → (tags put : Store) → (before after : List Content) → Type 0
ClosesEach old new tags put before after = (w : JournalStanding) → StandsAs w old tags before
    → w.history.pending ≡ None → HasClosed w new tags put before after
