-- The region of a block that is read, which is recalculated first where it awaits.
use Rattle.std.specs.Prelude.{◌≡◌, ℕ, Bool, false, if◌then◌else◌, List}
use Rattle.disk_model.specs.Disk.{Content}
use Rattle.image_model.specs.Geometry.{Geometry, region_of}
use Rattle.device_model.specs.Regions.{with_region}
use Rattle.direct_model.specs.DirectDisk.{DirectDisk}
use Rattle.direct_mode.specs.CallLaws.{StandsThrough}
use Rattle.direct_mode.specs.Cells.{HasCells}
use Rattle.hmac_tag.specs.TagMaker.{TagRule}
use Rattle.tag_store.specs.Store.{Store}
use Rattle.device_parts.specs.Device.{rule_on}
use Rattle.recalculation.specs.declared.recalculating.Recalculation.{Recalculation}
use Rattle.recalculation.specs.Recalculation.{IsRecalculationOf}

-- The regions that await once the block is read.
abbrev pub awaiting_read : Geometry → (block : ℕ) → (awaiting : ℕ → Bool) → ℕ → Bool
awaiting_read g block awaiting =
    if awaiting (region_of g block) then with_region (region_of g block) false awaiting else awaiting

-- The disk has its cells while these regions await, with tags by this rule.
pub record IsToRead (d : DirectDisk) (awaiting : ℕ → Bool) (rule : TagRule) (r : Recalculation) (store : Store)
    (moments : List Content) : Type 0 where
  pub cells : HasCells d awaiting store moments
  pub recalculation_ : IsRecalculationOf d.superblock d.geometry awaiting r
  pub rule_ : rule ≡ rule_on d.format

-- It stands for the same at each moment of a call, and has its cells at its end, when the block's region does not
-- await.
pub record IsTaken (d : DirectDisk) (awaiting : ℕ → Bool) (block : ℕ) (r : Recalculation) (store : Store)
    (before after : List Content) : Type 0 where
  pub through : StandsThrough d before after
  pub cells : HasCells d (awaiting_read d.geometry block awaiting) store after
  pub recalculation_ : IsRecalculationOf d.superblock d.geometry (awaiting_read d.geometry block awaiting) r
  pub rests : awaiting_read d.geometry block awaiting (region_of d.geometry block) ≡ false

-- So each disk that has them does,
abbrev pub TakesEach : TagRule → (block : ℕ) → (old new : Recalculation) → (store last : Store)
    → (before after : List Content) → Type 0
TakesEach rule block old new store last before after = (d : DirectDisk) (awaiting : ℕ → Bool)
    → IsToRead d awaiting rule old store before → IsTaken d awaiting block new last before after

-- and stands for the same also where the call fails.
abbrev pub StandsTaking : TagRule → (block : ℕ) → Recalculation → Store → (before after : List Content) → Type 0
StandsTaking rule block r store before after = (d : DirectDisk) (awaiting : ℕ → Bool)
    → IsToRead d awaiting rule r store before → StandsThrough d before after
