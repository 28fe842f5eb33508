-- All regions that await are recalculated, one after the other, on a disk in journal mode, and their tags written back:
-- what comes before a change of mode. What a call says is of a disk with a bitmap too.
-- Own: the position does not move, since the change writes sector 0 itself, once all tags are in place.
use Rattle.std.specs.Prelude.{◌≡◌, ℕ, ◌<◌, Bool, true, false, Some, None, List, []}
use Rattle.disk_model.specs.Disk.{Content, EachImage, Image}
use Rattle.disk_model.specs.Moments.{EachMoment, HasNow, content_now}
use Rattle.image_model.specs.declared.flags.TheConstants.{DIRTY_BITMAP}
use Rattle.image_model.specs.Geometry.{Geometry, regions}
use Rattle.image_model.specs.Superblock.{has_flag}
use Rattle.place_model.specs.Format.{DiskFormat, HasCells, cells_on}
use Rattle.journal_model.specs.Erasing.{IsEmptyJournal}
use Rattle.journal_model.specs.JournaledDisk.{IsCutOf, JournaledDisk, StandsFor}
use Rattle.journal_model.specs.Opening.{opened_disk}
use Rattle.journal_model.specs.Recovery.{IsRecovered}
use Rattle.direct_laws.specs.CallLaws.{ReadsTagsNow}
use Rattle.bitmap_laws.specs.CallLaws.{AreSameBits}
use Rattle.hmac_tag.specs.TagMaker.{TagRule}
use Rattle.change_model.specs.Opened.{IsEmptiedOf}
use Rattle.change_model.specs.PhaseLaws.{no_region}
use Rattle.recalculate_laws.specs.Taking.{KeepsAwaitingNow}
use Rattle.place_model.specs.Tags.{HoldsTag}
use Rattle.recalculation.specs.Awaiting.{AwaitingRegions, IsOpening, awaiting_of}
use Rattle.recalculation.specs.AllWithBitmap.{RecalculatesWithBitmap, StandsWithBitmap}
use Rattle.recalculation.specs.Recalculation.{AwaitsBlocksOf}
use Rattle.recalculation.specs.Rule.{rule_on}

-- The regions that await in memory are those of a disk in journal mode, whose tags are made by this rule.
pub record AwaitOn (d : JournaledDisk) (awaiting : ℕ → Bool) (rule : TagRule) (a : AwaitingRegions) : Type 0 where
  pub geometry : a.geometry ≡ d.geometry
  pub regions_ : AreSameBits d.geometry (awaiting_of a) awaiting
  pub blocks_ : AwaitsBlocksOf d.superblock a
  pub rule_is : rule ≡ rule_on d.format

-- No region awaits then that did not before.
pub record AwaitFewer (g : Geometry) (old new : ℕ → Bool) : Type 0 where
  pub each : (region : ℕ) → region < regions g → new region ≡ true → old region ≡ true

-- Every disk in journal mode of which these regions await is kept, and none of its regions awaits then: each block that
-- is to be recalculated has the tag of its placed bytes, and each other its own.
abbrev pub RecalculatesAll : TagRule → AwaitingRegions → (tags now : Content → ℕ → List ℕ)
    → (before after : List Content) → Type 0
RecalculatesAll rule a tags now before after = (d : JournaledDisk) (awaiting : ℕ → Bool) → AwaitOn d awaiting rule a
    → KeepsAwaitingNow d awaiting tags before → KeepsAwaitingNow d no_region now after

-- At each moment of it such a disk stands for the same, and each image is one that a cut leaves of it, with all its
-- cells.
abbrev pub StandsInAll : TagRule → AwaitingRegions → (tags : Content → ℕ → List ℕ) → (before after : List Content)
    → Type 0
StandsInAll rule a tags before after = (d : JournaledDisk) (awaiting : ℕ → Bool) → AwaitOn d awaiting rule a
    → KeepsAwaitingNow d awaiting tags before
    → EachMoment before after (λ c. StandsFor d c × EachImage (IsCutOf d []) c)

-- Bytes may be written to a sector of tags alone.
abbrev pub IsOfTagsOnly : Geometry → (sector : ℕ) → List ℕ → Type 0
IsOfTagsOnly g sector x = HoldsTag g sector

-- ---- what a call says

-- All were recalculated: none awaits, and every disk is kept of which they did, in journal mode and with a bitmap.
pub record HasTakenAll (rule : TagRule) (old new : AwaitingRegions) (tags now : Content → ℕ → List ℕ)
    (before after : List Content) : Type 0 where
  pub none : AreSameBits old.geometry (awaiting_of new) no_region
  pub journal : RecalculatesAll rule old tags now before after
  pub bitmap : RecalculatesWithBitmap rule old tags now before after

-- At each moment of it every such disk stands for the same, in journal mode and with a bitmap.
pub record StandsThroughAll (rule : TagRule) (a : AwaitingRegions) (tags : Content → ℕ → List ℕ)
    (before after : List Content) : Type 0 where
  pub journal : StandsInAll rule a tags before after
  pub bitmap : StandsWithBitmap rule a tags before after

-- ---- on an image that was recovered

-- The disk was recovered from the image, and in memory those regions await that do when it is opened, whose tags are
-- made by its rule.
pub record RecoversWith (f : DiskFormat) (entry : Image) (next number : ℕ) (rule : TagRule) (a : AwaitingRegions)
    (tags : ℕ → List ℕ) (c : Content) : Type 0 where
  pub recovered : IsRecovered (opened_disk f entry) next number tags c
  pub no_bitmap : has_flag DIRTY_BITMAP f.superblock.flags ≡ false
  pub opening : IsOpening f.superblock f.geometry None a
  pub rule_is : rule ≡ rule_on f

-- So all regions are recalculated of what was recovered: at each moment each image has the cells of that at the entry,
abbrev pub RecoveredCellsLaw : Type 0
RecoveredCellsLaw = (f : DiskFormat) (entry : Image) (next number : ℕ) (rule : TagRule) (a : AwaitingRegions)
    (tags : Content → ℕ → List ℕ) (c : Content) (before after : List Content) → content_now before ≡ Some c
    → RecoversWith f entry next number rule a (tags c) c → StandsInAll rule a tags before after
    → EachMoment before after (EachImage (HasCells f (cells_on f entry)))

-- and then a change of mode begins, where the journal was emptied.
abbrev pub RecoveredChangesLaw : Type 0
RecoveredChangesLaw = (f : DiskFormat) (entry : Image) (next number : ℕ) (rule : TagRule) (a : AwaitingRegions)
    (tags now : Content → ℕ → List ℕ) (c : Content) (before after : List Content) (emptied : ℕ)
    → content_now before ≡ Some c → (is : RecoversWith f entry next number rule a (tags c) c) → emptied < 4
    → IsEmptyJournal is.recovered.now.geometry emptied is.recovered.now.journal
    → RecalculatesAll rule a tags now before after → ReadsTagsNow f.geometry now after
    → HasNow (λ first. IsEmptiedOf f entry is.recovered.now emptied (now first) first) after
