-- All regions whose bit is set are recalculated, on a disk with a bitmap that was just opened, and their tags written
-- back: what comes before a change of mode.
-- Own: the bits stay set until all these tags are in place.
use Rattle.std.specs.Prelude.{◌≡◌, ℕ, ◌<◌, true, Some, List}
use Rattle.disk_model.specs.Disk.{Content, EachImage, Image}
use Rattle.disk_model.specs.Moments.{EachMoment, HasNow, content_now}
use Rattle.image_model.specs.Bitmap.{is_dirty}
use Rattle.image_model.specs.Geometry.{regions}
use Rattle.place_model.specs.Format.{DiskFormat, HasCells, cells_on}
use Rattle.bitmap_model.specs.BitmapDisk.{BitmapDisk, needs_bit}
use Rattle.bitmap_model.specs.Opening.{opened_disk}
use Rattle.bitmap_model.specs.Steps.{KeepsCells}
use Rattle.direct_laws.specs.CallLaws.{ReadsTagsNow}
use Rattle.bitmap_laws.specs.CallLaws.{AreSameBits}
use Rattle.hmac_tag.specs.TagMaker.{TagRule}
use Rattle.change_model.specs.FromBitmap.{IsRecalculating}
use Rattle.change_model.specs.Opened.{IsRecalculatedOf}
use Rattle.change_model.specs.PhaseLaws.{no_region}
use Rattle.dirty_bitmap.specs.Bits.{RegionBits, bits_of}
use Rattle.recalculation.specs.Awaiting.{AwaitingRegions, IsOpening, awaiting_of}
use Rattle.recalculation.specs.Rule.{rule_on}

-- The disk with a bitmap was opened on the image, with no write since, and reads give what it says, with these tags.
pub record KeepsOpened (d : BitmapDisk) (entry : Image) (tags : ℕ → List ℕ) (c : Content) : Type 0 where
  pub is : IsRecalculating d entry c
  pub keeps : KeepsCells d tags c

-- So it is now, with the tags that a store gives over its content.
abbrev pub KeepsOpenedNow : BitmapDisk → (entry : Image) → (tags : Content → ℕ → List ℕ) → List Content → Type 0
KeepsOpenedNow d entry tags moments = HasNow (λ c. KeepsOpened d entry (tags c) c) moments

-- The disk once all its regions are recalculated: none awaits, and each that needed its bit is fresh.
abbrev pub recalculated_disk : BitmapDisk → BitmapDisk
recalculated_disk d = record d { awaiting = no_region; fresh = needs_bit d }

-- The regions that await in memory are those of a disk with a bitmap, of which every block does, whose tags are made by
-- this rule.
pub record AwaitWithBitmap (d : BitmapDisk) (rule : TagRule) (a : AwaitingRegions) : Type 0 where
  pub geometry : a.geometry ≡ d.geometry
  pub first : a.first ≡ 0
  pub regions_ : AreSameBits d.geometry (awaiting_of a) d.awaiting
  pub rule_is : rule ≡ rule_on d.format

-- Every disk with a bitmap of which these regions await is kept, and none of its regions awaits then: each block of
-- these has the tag of its bytes, and each other its own.
abbrev pub RecalculatesWithBitmap : TagRule → AwaitingRegions → (tags now : Content → ℕ → List ℕ)
    → (before after : List Content) → Type 0
RecalculatesWithBitmap rule a tags now before after = (d : BitmapDisk) (entry : Image) → AwaitWithBitmap d rule a
    → KeepsOpenedNow d entry tags before → KeepsOpenedNow (recalculated_disk d) entry now after

-- At each moment of it such a disk stands for the same, with no other bit set.
abbrev pub StandsWithBitmap : TagRule → AwaitingRegions → (tags : Content → ℕ → List ℕ) → (before after : List Content)
    → Type 0
StandsWithBitmap rule a tags before after = (d : BitmapDisk) (entry : Image) → AwaitWithBitmap d rule a
    → KeepsOpenedNow d entry tags before → EachMoment before after (IsRecalculating d entry)

-- ---- on an image that was opened

-- At opening each region whose bit is set in the image awaits in memory, where the bits in memory are the image's.
abbrev pub OpenedWithBitmapLaw : Type 0
OpenedWithBitmapLaw = (f : DiskFormat) (entry : Image) (bits : RegionBits) (rule : TagRule) (a : AwaitingRegions)
    → AreSameBits f.geometry (bits_of bits) (is_dirty f.geometry entry)
    → IsOpening f.superblock f.geometry (Some bits) a → rule ≡ rule_on f
    → AwaitWithBitmap (opened_disk f entry) rule a

-- The disk was opened on the image, and each region whose bit is set in that awaits in memory.
pub record OpensWithBitmap (f : DiskFormat) (entry : Image) (rule : TagRule) (a : AwaitingRegions) (tags : ℕ → List ℕ)
    (c : Content) : Type 0 where
  pub opened : KeepsOpened (opened_disk f entry) entry tags c
  pub awaiting : AwaitWithBitmap (opened_disk f entry) rule a

-- The image has the cells of the one at the entry, and no bit is set in it that was not set there.
abbrev pub HasCellsAndBits : DiskFormat → (entry : Image) → Image → Type 0
HasCellsAndBits f entry image = HasCells f (cells_on f entry) image × ((region : ℕ) → region < regions f.geometry
    → is_dirty f.geometry image region ≡ true → is_dirty f.geometry entry region ≡ true)

-- So all regions whose bit is set are recalculated of it: at each moment the disk stands for what was opened, and each
-- image has the cells of that at the entry, and no other bit,
abbrev pub BitmapCellsLaw : Type 0
BitmapCellsLaw = (f : DiskFormat) (entry : Image) (rule : TagRule) (a : AwaitingRegions)
    (tags : Content → ℕ → List ℕ) (c : Content) (before after : List Content) → content_now before ≡ Some c
    → OpensWithBitmap f entry rule a (tags c) c → StandsWithBitmap rule a tags before after
    → EachMoment before after (λ now. IsRecalculating (opened_disk f entry) entry now
    × EachImage (HasCellsAndBits f entry) now)

-- and then a change of mode begins.
abbrev pub BitmapRecalculatedLaw : Type 0
BitmapRecalculatedLaw = (f : DiskFormat) (entry : Image) (rule : TagRule) (a : AwaitingRegions)
    (tags now : Content → ℕ → List ℕ) (c : Content) (before after : List Content) → content_now before ≡ Some c
    → OpensWithBitmap f entry rule a (tags c) c → RecalculatesWithBitmap rule a tags now before after
    → ReadsTagsNow f.geometry now after
    → HasNow (λ last. IsRecalculatedOf f entry (recalculated_disk (opened_disk f entry)) (now last) last) after
