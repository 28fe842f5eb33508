-- A disk in bitmap mode between the calls of its work, with what stands in memory of it.
use Rattle.std.specs.Prelude.{◌≡◌, ◌⊎◌, ℕ, ◌<◌, Bool, false, List}
use Rattle.disk_model.specs.Disk.{Content, last_image}
use Rattle.disk_model.specs.Moments.{HasNow}
use Rattle.image_model.specs.Geometry.{regions}
use Rattle.device_model.specs.Mode.{Bitmap}
use Rattle.journal_laws.specs.RegionLaws.{AreRegions}
use Rattle.place_model.specs.Format.{DiskFormat}
use Rattle.place_model.specs.Opened.{set_bits_on}
use Rattle.bitmap_model.specs.BitmapDisk.{BitmapDisk}
use Rattle.bitmap_model.specs.Opening.{opened_disk}
use Rattle.bitmap_laws.specs.CallLaws.{IsTaggerOf, KeepsNow, StandsThrough}
use Rattle.hmac_tag.specs.TagMaker.{TagRule}
use Rattle.recalculation.specs.Rule.{tagger_by}
use Rattle.tag_store.specs.Store.{Store, given_tags}
use Rattle.bitmap_mode.specs.States.{States, counts_of}

-- The regions in memory are those of the disk, which with the tags that the store gives is as told now. The marked
-- regions are those whose bit was set at opening.
pub record StandsAs (d : BitmapDisk) (marked : ℕ → Bool) (s : States) (store : Store) (moments : List Content)
    : Type 0 where
  pub geometry : d.geometry ≡ store.geometry
  pub regions_ : AreRegions (counts_of s) d
  pub now : KeepsNow d marked (given_tags store) moments

-- So it is, and its tags are made by this rule.
pub record StandsWith (d : BitmapDisk) (marked : ℕ → Bool) (rule : TagRule) (s : States) (store : Store)
    (moments : List Content) : Type 0 where
  pub stands : StandsAs d marked s store moments
  pub tagger : IsTaggerOf d (tagger_by rule s.geometry)

-- The regions are those of the disk that is opened on the image that reads give.
abbrev pub AreOpened : DiskFormat → States → List Content → Type 0
AreOpened d s moments = HasNow (λ c. AreRegions (counts_of s) (opened_disk d (last_image c))) moments

-- No region of the image that reads give has its bit set.
abbrev pub HasNoBits : DiskFormat → Content → Type 0
HasNoBits d c = (region : ℕ) → region < regions d.geometry → set_bits_on Bitmap d (last_image c) region ≡ false

-- ---- calls, over any disk that stands so before them

-- What it is then stands at the end of a call,
abbrev pub Leaves : (then_ : BitmapDisk → BitmapDisk) → (old new : States) → (store last : Store)
    → (before after : List Content) → Type 0
Leaves then_ old new store last before after = (d : BitmapDisk) (marked : ℕ → Bool)
    → StandsAs d marked old store before → StandsAs (then_ d) marked new last after

-- and at each of its moments.
abbrev pub StandsIn : (then_ : BitmapDisk → BitmapDisk) → States → Store → (before after : List Content) → Type 0
StandsIn then_ s store before after = (d : BitmapDisk) (marked : ℕ → Bool) → StandsAs d marked s store before
    → StandsThrough (then_ d) marked before after

-- It stands for the one up to some moment, and from there on for the other.
pub record TurnsInto (d then_ : BitmapDisk) (marked : ℕ → Bool) (before after : List Content) : Type 0 where
  pub middle : List Content
  pub first : StandsThrough d marked before middle
  pub rest : StandsThrough then_ marked middle after

-- In a call that may fail before that moment it stands for the one all the time, or turns into the other.
abbrev pub MayTurnInto : (d then_ : BitmapDisk) → (marked : ℕ → Bool) → (before after : List Content) → Type 0
MayTurnInto d then_ marked before after =
    StandsThrough d marked before after ⊎ TurnsInto d then_ marked before after
