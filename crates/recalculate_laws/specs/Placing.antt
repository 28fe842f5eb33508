-- What awaits in journal mode while the journal goes on: which tags a store gives once entries are committed, placed and settled.
-- Own: a call that keeps the cells keeps what awaits, where it tells the tags that its store gives then.
use Rattle.std.specs.Prelude.{◌≡◌, ◌⊎◌, ℕ, ◌<◌, Bool, Some, List}
use Rattle.disk_model.specs.Disk.{Content}
use Rattle.disk_model.specs.Moments.{HasNow, content_now}
use Rattle.image_model.specs.Section.{Entry}
use Rattle.place_model.specs.Tags.{with_block_tag}
use Rattle.journal_model.specs.JournaledDisk.{IsFormed, JournaledDisk, cell_at}
use Rattle.journal_model.specs.Steps.{IsNextEntry, KeepsCells, after_commit, after_place, after_settle}
use Rattle.direct_laws.specs.CallLaws.{GivesTags}
use Rattle.recalculate_laws.specs.Taking.{KeepsAwaitingNow}

-- Of each block the store gives the tag that it gave, and the same cell is placed of the second disk as was of the first; or
-- it gives the tag of the cell that is placed of the second.
pub record GivesPlaced (d then_ : JournaledDisk) (tags now : Content → ℕ → List ℕ) (before after : List Content)
    : Type 0 where
  pub each : HasNow (λ start. HasNow (λ c. (b : ℕ) → b < d.geometry.blocks
      → ((now c b ≡ tags start b) × (cell_at then_ then_.placed b ≡ cell_at d d.placed b))
      ⊎ (now c b ≡ (cell_at then_ then_.placed b).tag)) after) before
  -- Where the content is told at the end it is told at the start.
  pub told : (c : Content) → content_now after ≡ Some c → (start : Content) × (content_now before ≡ Some start)

-- Then what awaits is kept, where the cells are,
abbrev pub PlacingLaw : Type 0
PlacingLaw = (d then_ : JournaledDisk) (awaiting : ℕ → Bool) (tags now : Content → ℕ → List ℕ) (a b : List Content)
    → then_.format ≡ d.format → KeepsAwaitingNow d awaiting tags a → GivesPlaced d then_ tags now a b
    → HasNow (λ c. KeepsCells then_ (now c) c) b → KeepsAwaitingNow then_ awaiting now b

-- So it is of calls in a row,
abbrev pub PlacesThenLaw : Type 0
PlacesThenLaw = (d mid then_ : JournaledDisk) (tags put now : Content → ℕ → List ℕ) (a m b : List Content)
    → mid.format ≡ d.format → GivesPlaced d mid tags put a m → GivesPlaced mid then_ put now m b
    → GivesPlaced d then_ tags now a b

-- of one that places nothing, as a read, a commit and a settle,
abbrev pub PlacesNoneLaw : Type 0
PlacesNoneLaw = (d then_ : JournaledDisk) (tags now : Content → ℕ → List ℕ) (a b : List Content)
    → ((n : ℕ) → n < d.geometry.blocks → cell_at then_ then_.placed n ≡ cell_at d d.placed n)
    → ((c : Content) → content_now b ≡ Some c → (start : Content) × (content_now a ≡ Some start))
    → GivesTags d.geometry tags now a b → GivesPlaced d then_ tags now a b

-- both of which leave what is placed,
abbrev pub SameCellsLaw : Type 0
SameCellsLaw = (d : JournaledDisk) (batch : ℕ) (bytes : List ℕ) (b : ℕ) → IsFormed d
    → (cell_at (after_commit d batch bytes) d.placed b ≡ cell_at d d.placed b)
    × (cell_at (after_settle d) d.placed b ≡ cell_at d d.placed b)

-- and of one that places the next entry, with its tag.
abbrev pub PlacesOneLaw : Type 0
PlacesOneLaw = (d : JournaledDisk) (block : ℕ) (entry : Entry) (tags now : Content → ℕ → List ℕ) (a b : List Content)
    → IsFormed d → IsNextEntry d block entry
    → ((c : Content) → content_now b ≡ Some c → (start : Content) × (content_now a ≡ Some start))
    → GivesTags d.geometry (λ c. with_block_tag block entry.tag (tags c)) now a b
    → GivesPlaced d (after_place d) tags now a b
