-- A region that is recalculated: before a block of it is read, and in the background.
use Rattle.std.specs.Prelude.{◌≡◌, ℕ, ◌<◌, Bool, true, false, List, Some, None}
use Rattle.disk_model.specs.Disk.{Content}
use Rattle.image_model.specs.Geometry.{region_of}
use Rattle.hmac_tag.specs.TagMaker.{TagRule}
use Rattle.journal_ring.specs.declared.ring.Moved.{Moved}
use Rattle.journal_ring.specs.declared.ring.Moved.TheVariants.{Did, Idle}
use Rattle.recalculation.specs.declared.recalculating.Recalculation.{Recalculation}
use Rattle.recalculation.specs.Recalculation.{StepsPosition, StepsPositionIn, TakesAwaiting, TakesAwaitingIn, count_of, next_of}
use Rattle.tag_store.specs.Store.{Store, given_tags}
use Rattle.journal_device.specs.Answers.{takes_first}
use Rattle.journal_device.specs.declared.parts.JournalState.{JournalState}

-- ---- before a read

-- The region is recalculated, or nothing is done.
abbrev pub TakesIf : (takes : Bool) → TagRule → (region : ℕ) → (old new : Recalculation) → (store last : Store)
    → (before after : List Content) → Type 0
TakesIf true rule region old new store last before after =
    TakesAwaiting rule region old new store.geometry (given_tags store) (given_tags last) before after
TakesIf false rule region old new store last before after = (new ≡ old) × (last ≡ store) × (after ≡ before)

-- That of the block is, where a read of the block recalculates it first.
abbrev pub TakesFirst : TagRule → (block : ℕ) → (old new : JournalState) → (store last : Store)
    → (before after : List Content) → Type 0
TakesFirst rule block old new store last before after =
    TakesIf (takes_first old.journal old.recalculation block) rule (region_of old.recalculation.awaiting.geometry block)
    old.recalculation new.recalculation store last before after

-- While the one is done, or the other.
abbrev pub TakesIfIn : (takes : Bool) → TagRule → (region : ℕ) → Recalculation → Store
    → (before after : List Content) → Type 0
TakesIfIn true rule region old store before after =
    TakesAwaitingIn rule region old store.geometry (given_tags store) before after
TakesIfIn false rule region old store before after = after ≡ before

-- While that of the block is.
abbrev pub TakesFirstIn : TagRule → (block : ℕ) → JournalState → Store → (before after : List Content) → Type 0
TakesFirstIn rule block old store before after =
    TakesIfIn (takes_first old.journal old.recalculation block) rule (region_of old.recalculation.awaiting.geometry block)
    old.recalculation store before after

-- ---- in the background

-- The least region that awaits is recalculated, and then the position moved: fewer await.
pub record StepsRegion (rule : TagRule) (old new : Recalculation) (store last : Store) (before after : List Content)
    : Type 0 where
  pub region : ℕ
  pub least : next_of old ≡ Some region
  pub steps : StepsPosition rule region old new store.geometry (given_tags store) (given_tags last) before after
  pub fewer : count_of new < count_of old

-- No region awaits, and nothing has changed: the disk was not called.
pub record FindsNone {A : Type 0} (old new : Recalculation) (store last : Store) (first final : A) : Type 0 where
  pub none : next_of old ≡ None
  pub recalc_ : new ≡ old
  pub store_ : last ≡ store
  pub disk : final ≡ first

-- A step did the one, or found the other, on a disk that tells its contents so.
abbrev pub HasStepped : {A : Type 0} → Moved → TagRule → (old new : Recalculation) → (store last : Store)
    → (moments : A → List Content) → (first final : A) → Type 0
HasStepped Did rule old new store last moments first final =
    StepsRegion rule old new store last (moments first) (moments final)
HasStepped Idle rule old new store last moments first final = FindsNone old new store last first final

-- How far it came, where the disk failed in it.
pub record StepsRegionIn (rule : TagRule) (old : Recalculation) (store : Store) (before after : List Content)
    : Type 0 where
  pub region : ℕ
  pub least : next_of old ≡ Some region
  pub through : StepsPositionIn rule region old store.geometry (given_tags store) before after
