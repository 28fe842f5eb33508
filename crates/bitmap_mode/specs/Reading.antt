-- A block that is read: its region is recalculated first where that awaits.
use Rattle.std.specs.Prelude.{◌≡◌, ℕ, Bool, if◌then◌else◌, List}
use Rattle.disk_model.specs.Disk.{Content, Reads}
use Rattle.disk_model.specs.Moments.{HasNow}
use Rattle.image_model.specs.Geometry.{data_at, region_of}
use Rattle.direct_laws.specs.CallLaws.{AddsTags, GivesTags, KeepsOthersNow}
use Rattle.bitmap_model.specs.BitmapDisk.{BitmapDisk}
use Rattle.bitmap_model.specs.Steps.{after_recalculation}
use Rattle.bitmap_laws.specs.CallLaws.{StandsThrough, every_block, region_tags}
use Rattle.bitmap_laws.specs.EventLaws.{after_read}
use Rattle.bitmap_laws.specs.ServeLaws.{Recalculates}
use Rattle.hmac_tag.specs.TagMaker.{TagRule}
use Rattle.recalculation.specs.Awaiting.{awaiting_of}
use Rattle.recalculation.specs.Rule.{tagger_by}
use Rattle.tag_store.specs.Store.{Store, given_tags}
use Rattle.bitmap_mode.specs.States.{States}
use Rattle.bitmap_mode.specs.Standing.{MayTurnInto, StandsAs, StandsWith, TurnsInto}

-- ---- a region that is recalculated

-- The tags that the store gives, with those of the bytes in place in one region, whose blocks all await,
abbrev pub tags_taken : TagRule → States → (region : ℕ) → Store → Content → ℕ → List ℕ
tags_taken rule s region store c =
    region_tags (tagger_by rule s.geometry) s.geometry every_block region c (given_tags store c)

-- and where it awaits.
abbrev pub tags_to_read : TagRule → States → (region : ℕ) → Store → Content → ℕ → List ℕ
tags_to_read rule s region store c b =
    if awaiting_of s.awaiting region then tags_taken rule s region store c b else given_tags store c b

-- Its tags were put, and others may have been written back.
abbrev pub TakesRegion : TagRule → States → (region : ℕ) → (store last : Store) → (before after : List Content)
    → Type 0
TakesRegion rule s region store last before after = Recalculates (tagger_by rule s.geometry) s.geometry
    every_block region (given_tags store) (given_tags last) before after

-- It is recalculated on each disk whose tags are made so,
abbrev pub IsTaken : TagRule → (region : ℕ) → (old new : States) → (store last : Store)
    → (before after : List Content) → Type 0
IsTaken rule region old new store last before after = (d : BitmapDisk) (marked : ℕ → Bool)
    → StandsWith d marked rule old store before → StandsAs (after_recalculation d region) marked new last after

-- which stands for what was there at each moment.
abbrev pub StandsInTaking : TagRule → States → Store → (before after : List Content) → Type 0
StandsInTaking rule s store before after = (d : BitmapDisk) (marked : ℕ → Bool)
    → StandsWith d marked rule s store before → StandsThrough d marked before after

-- ---- where it awaits, before a read

-- The store gives these tags then, and reads of each sector without a tag give what they gave.
pub record TakesToRead (rule : TagRule) (s : States) (region : ℕ) (store last : Store)
    (before after : List Content) : Type 0 where
  pub others : KeepsOthersNow s.geometry before after
  pub gives : GivesTags s.geometry (tags_to_read rule s region store) (given_tags last) before after

-- Sectors of tags alone are added, with bytes of the tags before and then.
abbrev pub AddsToRead : TagRule → States → (region : ℕ) → Store → (before after : List Content) → Type 0
AddsToRead rule s region store before after =
    AddsTags s.geometry (given_tags store) (tags_to_read rule s region store) before after

-- The disk once a region is recalculated, where it awaits,
abbrev pub after_taking : BitmapDisk → (region : ℕ) → BitmapDisk
after_taking d region = if d.awaiting region then after_recalculation d region else d

-- as each one is whose tags are made so.
abbrev pub LeavesToRead : TagRule → (region : ℕ) → (old new : States) → (store last : Store)
    → (before after : List Content) → Type 0
LeavesToRead rule region old new store last before after = (d : BitmapDisk) (marked : ℕ → Bool)
    → StandsWith d marked rule old store before → StandsAs (after_taking d region) marked new last after

-- ---- the block

-- The tag is that of the block then.
abbrev pub IsTagToRead : TagRule → States → (block : ℕ) → Store → (tag : List ℕ) → List Content → Type 0
IsTagToRead rule s block store tag moments =
    HasNow (λ c. tag ≡ tags_to_read rule s (region_of s.geometry block) store c block) moments

-- The disk turns into the one after the read, and stands so at the end. Its block is read so then, with this tag.
pub record HasRead (d : BitmapDisk) (marked : ℕ → Bool) (block : ℕ) (bytes tag : List ℕ) (s : States)
    (store : Store) (before after : List Content) : Type 0 where
  pub through : TurnsInto d (after_read d block) marked before after
  pub stands : StandsAs (after_read d block) marked s store after
  pub reads : HasNow (Reads (data_at d.geometry block) bytes) after
  pub tag_ : HasNow (λ c. tag ≡ given_tags store c block) after

-- So does each disk of which the block is read,
abbrev pub ReadsBlock : TagRule → (block : ℕ) → (bytes tag : List ℕ) → (old new : States) → (store last : Store)
    → (before after : List Content) → Type 0
ReadsBlock rule block bytes tag old new store last before after = (d : BitmapDisk) (marked : ℕ → Bool)
    → StandsWith d marked rule old store before → HasRead d marked block bytes tag new last before after

-- and where that fails, it may have.
abbrev pub MayReadBlock : TagRule → (block : ℕ) → States → Store → (before after : List Content) → Type 0
MayReadBlock rule block s store before after = (d : BitmapDisk) (marked : ℕ → Bool)
    → StandsWith d marked rule s store before → MayTurnInto d (after_read d block) marked before after
