-- A close: all is flushed, and the bits are cleared of the regions that do not await.
use Rattle.std.specs.Prelude.{◌≡◌, ◌⊎◌, ℕ, ◌<◌, Bool, ◌&&◌, nat_lt, if◌then◌else◌, List}
use Rattle.disk_model.specs.Disk.{Content, EachImage}
use Rattle.disk_model.specs.Moments.{HasNow}
use Rattle.image_model.specs.Bitmap.{is_dirty}
use Rattle.image_model.specs.Geometry.{Geometry, regions}
use Rattle.device_model.specs.Regions.{RegionCounts}
use Rattle.bitmap_model.specs.BitmapDisk.{BitmapDisk}
use Rattle.bitmap_model.specs.Steps.{after_flush}
use Rattle.bitmap_laws.specs.CallLaws.{IsBitmapSector, StandsThrough}
use Rattle.bitmap_laws.specs.CloseLaws.{IsRested}
use Rattle.bitmap_laws.specs.EventLaws.{with_cleared}
use Rattle.tag_store.specs.Store.{IsMarkedTags, Store}
use Rattle.bitmap_mode.specs.States.{AreSameCounts, States, counts_of}
use Rattle.bitmap_mode.specs.Standing.{MayTurnInto, StandsAs, TurnsInto}

-- The disk once all is flushed, and these bits are clear.
abbrev pub closed_disk : BitmapDisk → BitmapDisk
closed_disk d = with_cleared (after_flush d)

-- The disk turns into that, and stands so at the end. In each image those bits are set that were, and whose regions
-- await.
pub record HasClosed (d : BitmapDisk) (marked : ℕ → Bool) (s : States) (store : Store)
    (before after : List Content) : Type 0 where
  pub through : TurnsInto d (closed_disk d) marked before after
  pub stands : StandsAs (closed_disk d) marked s store after
  pub images : HasNow (EachImage (λ image. (region : ℕ) → region < regions d.geometry
      → is_dirty d.geometry image region ≡ (d.bits region && d.awaiting region))) after

-- So does each disk that is closed,
abbrev pub Closes : (old new : States) → (store last : Store) → (before after : List Content) → Type 0
Closes old new store last before after = (d : BitmapDisk) (marked : ℕ → Bool) → StandsAs d marked old store before
    → HasClosed d marked new last before after

-- and where that fails, it may have.
abbrev pub MayClose : States → Store → (before after : List Content) → Type 0
MayClose s store before after = (d : BitmapDisk) (marked : ℕ → Bool) → StandsAs d marked s store before
    → MayTurnInto d (closed_disk d) marked before after

-- ---- bits

-- All such bits are cleared of each disk of which no region is fresh,
abbrev pub LeavesCleared : (old new : States) → Store → (before after : List Content) → Type 0
LeavesCleared old new store before after = (d : BitmapDisk) (marked : ℕ → Bool) → IsRested d
    → StandsAs d marked old store before → StandsAs (with_cleared d) marked new store after

-- which stands so at each moment, whether that fails or not.
abbrev pub StandsInClearing : States → Store → (before after : List Content) → Type 0
StandsInClearing s store before after = (d : BitmapDisk) (marked : ℕ → Bool) → IsRested d
    → StandsAs d marked s store before → StandsThrough (with_cleared d) marked before after

-- Those that are set, once the bits are cleared of the first regions that do not await.
abbrev pub bits_cleared : RegionCounts → (count : ℕ) → ℕ → Bool
bits_cleared c count region =
    if nat_lt region count then c.set_bits region && c.awaiting region else c.set_bits region

-- So the counts are where that was not done to the end.
pub record IsClosedInPart (g : Geometry) (old new : RegionCounts) : Type 0 where
  pub count : ℕ
  pub counts : AreSameCounts g new (record old { set_bits = bits_cleared old count })

-- ---- what may be written

-- The bytes are a sector of the bitmap with such bits.
pub record IsOfCleared (g : Geometry) (c : RegionCounts) (sector : ℕ) (x : List ℕ) : Type 0 where
  pub count : ℕ
  pub sector_ : IsBitmapSector g (bits_cleared c count) sector x

-- The bytes may be written to the sector in a close: they are those of a sector of tags that was changed, or of one of
-- the bitmap with such bits.
abbrev pub IsOfClose : States → Store → ℕ → List ℕ → Type 0
IsOfClose s store sector x = IsMarkedTags store sector x ⊎ IsOfCleared s.geometry (counts_of s) sector x
