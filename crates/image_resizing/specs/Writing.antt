-- What a resize writes up to each of its moments.
-- Own: what is written for the new blocks is synced before the first sector is, which keeps what lies behind its fields.
use Rattle.std.specs.Prelude.{◌≡◌, ℕ, true, false, List}
use Rattle.disk_model.specs.Disk.{Content, Image, OnlyAdds, last_image, newest_only}
use Rattle.disk_model.specs.Moments.{EachMoment, HasNow}
use Rattle.image_model.specs.declared.flags.TheConstants.{DIRTY_BITMAP}
use Rattle.image_model.specs.Geometry.{Geometry}
use Rattle.image_model.specs.Superblock.{has_flag}
use Rattle.place_model.specs.Format.{OpensAs}
use Rattle.place_model.specs.RecoveryWrites.{IsOfRecovering}
use Rattle.resize_model.specs.Growth.{Growth, IsOfGrowth}
use Rattle.resize_model.specs.Resized.{resized_head}
use Rattle.resize_model.specs.Written.{IsOfHead, IsToTell, IsWrittenByResize}
use Rattle.image_resizing.specs.declared.planning.Plan.{Plan}
use Rattle.image_resizing.specs.Grown.{IsSettledFrom, IsToGrow}
use Rattle.image_resizing.specs.Plan.{growth_of, present_format}

-- A call writes no more than a recovery does.
abbrev pub WritesRecovery : Geometry → (before after : List Content) → Type 0
WritesRecovery g before after = HasNow (λ start. EachMoment before after (IsOfRecovering g start)) before

-- The first sector with the new fields, over these bytes.
abbrev pub head_over : Plan → (old : List ℕ) → List ℕ
head_over plan old = resized_head plan.grown.fields old

-- ---- a growth

-- Behind a disk that is settled: what is written for the new blocks so far; or all of that, and the first sector so
-- far.
pub data IsWrittenBehind (w : Growth) (head : List ℕ) (first c : Content) : Type 0 where
  Growing : OnlyAdds (IsOfGrowth w) first c → IsWrittenBehind w head first c
  Telling : (grown : Content) → IsToTell w first grown → OnlyAdds (IsOfHead head) grown c
      → IsWrittenBehind w head first c

-- A call writes the first sector alone,
abbrev pub WritesHead : Plan → (before after : List Content) → Type 0
WritesHead plan before after = HasNow (λ start. EachMoment before after
    (OnlyAdds (IsOfHead (head_over plan (last_image start 0))) start)) before

-- or first what is written for the new blocks.
abbrev pub WritesGrowth : (sectors : ℕ) → Plan → (before after : List Content) → Type 0
WritesGrowth sectors plan before after = (image : Image) → HasNow (λ first. IsToGrow sectors plan image first
    → EachMoment before after (IsWrittenBehind (growth_of sectors plan image) (head_over plan (image 0)) first)) before

-- ---- a resize

-- The disk is settled from this content, by a sync or by a recovery.
pub record IsSettledBy (sectors : ℕ) (plan : Plan) (start c : Content) : Type 0 where
  pub from : IsSettledFrom sectors plan (last_image start) c
  pub synced : has_flag DIRTY_BITMAP plan.present.fields.flags ≡ true → c ≡ newest_only start
  pub recovered : has_flag DIRTY_BITMAP plan.present.fields.flags ≡ false
      → IsOfRecovering plan.present.geometry start c

-- A moment of the resize by a plan.
abbrev pub IsWrittenBy : (sectors : ℕ) → Plan → (start c : Content) → Type 0
IsWrittenBy sectors plan start c =
    IsWrittenByResize (IsOfRecovering plan.present.geometry) (present_format sectors plan) start c

-- Behind a disk that is settled a call writes no more than a resize does,
abbrev pub WritesSettled : (sectors : ℕ) → Plan → (before after : List Content) → Type 0
WritesSettled sectors plan before after = (start : Content) → HasNow (λ first. IsSettledBy sectors plan start first
    → EachMoment before after (IsWrittenBy sectors plan start)) before

-- and so does one that settles it too,
abbrev pub WritesResize : (sectors : ℕ) → Plan → (before after : List Content) → Type 0
WritesResize sectors plan before after =
    HasNow (λ start. EachMoment before after (IsWrittenBy sectors plan start)) before

-- and one by which the image is judged, where that can be opened.
abbrev pub WritesOpenable : (sectors : ℕ) → Plan → (before after : List Content) → Type 0
WritesOpenable sectors plan before after = HasNow (λ start. OpensAs (present_format sectors plan) (last_image start)
    → EachMoment before after (IsWrittenBy sectors plan start)) before
