-- The growth of an image on a disk, for any image that the disk stands for.
use Rattle.std.specs.Prelude.{◌≡◌, ℕ, ◌<◌, false, List}
use Rattle.disk_model.specs.Disk.{Content, EachImage, HasNothingPending, Image, last_image}
use Rattle.disk_model.specs.Moments.{EachMoment, HasNow}
use Rattle.image_model.specs.declared.flags.TheConstants.{DIRTY_BITMAP}
use Rattle.image_model.specs.Superblock.{has_flag}
use Rattle.place_model.specs.Format.{HasCells, cells_on}
use Rattle.resize_model.specs.AllPlaced.{IsAllPlaced, KeepsStored}
use Rattle.resize_model.specs.CallLaws.{IsFounded, StandsThrough}
use Rattle.resize_model.specs.Growth.{HasNewBlocks, IsCutOf, StandsFor, cells_before}
use Rattle.resize_model.specs.Left.{IsResizedContent, IsResizedOrNot}
use Rattle.image_resizing.specs.declared.planning.Plan.{Plan}
use Rattle.image_resizing.specs.Plan.{growth_of, present_format}

-- ---- the new blocks

-- The disk stands for the growth of the image that reads give.
pub record IsToGrow (sectors : ℕ) (plan : Plan) (image : Image) (c : Content) : Type 0 where
  pub reads : last_image c ≡ image
  pub stands : StandsFor (growth_of sectors plan image) c

abbrev pub StandsNow : (sectors : ℕ) → Plan → Image → List Content → Type 0
StandsNow sectors plan image moments = HasNow (IsToGrow sectors plan image) moments

-- All is there but the first sector, and synced.
pub record IsPrepared (sectors : ℕ) (plan : Plan) (image : Image) (c : Content) : Type 0 where
  pub stands : StandsFor (growth_of sectors plan image) c
  pub settled : HasNothingPending c
  pub new : HasNewBlocks (growth_of sectors plan image) (last_image c)

-- It is so after a call, where the disk stood for the growth before it,
abbrev pub HasPrepared : (sectors : ℕ) → Plan → (before after : List Content) → Type 0
HasPrepared sectors plan before after = (image : Image) → StandsNow sectors plan image before
    → HasNow (IsPrepared sectors plan image) after

-- for which it stands at each moment.
abbrev pub StandsGrowing : (sectors : ℕ) → Plan → (before after : List Content) → Type 0
StandsGrowing sectors plan before after = (image : Image) → StandsNow sectors plan image before
    → StandsThrough (growth_of sectors plan image) before after

-- ---- the first sector

-- It tells of them after a call, where all is there before it,
abbrev pub FoundsGrowth : (sectors : ℕ) → Plan → (before after : List Content) → Type 0
FoundsGrowth sectors plan before after = (image : Image) → HasNow (IsPrepared sectors plan image) before
    → HasNow (IsFounded (growth_of sectors plan image)) after

-- and each image at each moment has the old blocks, or the new ones too.
abbrev pub LeavesCuts : (sectors : ℕ) → Plan → (before after : List Content) → Type 0
LeavesCuts sectors plan before after = (image : Image) → HasNow (IsPrepared sectors plan image) before
    → EachMoment before after (EachImage (IsCutOf (growth_of sectors plan image)))

-- ---- both

abbrev pub GrowsImage : (sectors : ℕ) → Plan → (before after : List Content) → Type 0
GrowsImage sectors plan before after = (image : Image) → StandsNow sectors plan image before
    → HasNow (IsFounded (growth_of sectors plan image)) after

abbrev pub LeavesGrowth : (sectors : ℕ) → Plan → (before after : List Content) → Type 0
LeavesGrowth sectors plan before after = (image : Image) → StandsNow sectors plan image before
    → EachMoment before after (EachImage (IsCutOf (growth_of sectors plan image)))

-- ---- by the image at entry

-- The disk is synced, or recovered where there is no bitmap, from an image with these cells, and can grow.
pub record IsSettledFrom (sectors : ℕ) (plan : Plan) (entry : Image) (c : Content) : Type 0 where
  pub settled : HasNothingPending c
  pub stands : StandsFor (growth_of sectors plan (last_image c)) c
  pub cells : EachImage (HasCells (present_format sectors plan) (cells_on (present_format sectors plan) entry)) c
  pub before : (b : ℕ) → b < plan.present.geometry.blocks
      → cells_before (growth_of sectors plan (last_image c)) b ≡ cells_on (present_format sectors plan) entry b
  pub placed : has_flag DIRTY_BITMAP plan.present.fields.flags ≡ false
      → EachImage (IsAllPlaced (present_format sectors plan) (cells_on (present_format sectors plan) entry)) c
  pub stored : EachImage (KeepsStored (present_format sectors plan) entry) c

-- It is resized from that image.
pub record IsResizedFrom (sectors : ℕ) (plan : Plan) (entry : Image) (c : Content) : Type 0 where
  pub resized : IsResizedContent (present_format sectors plan) (cells_on (present_format sectors plan) entry) c
  pub stored : EachImage (KeepsStored (present_format sectors plan) entry) c

-- A call resizes what is settled,
abbrev pub GrowsSettled : (sectors : ℕ) → Plan → (before after : List Content) → Type 0
GrowsSettled sectors plan before after = (entry : Image)
    → HasNow (λ c. IsSettledFrom sectors plan entry c → HasNow (IsResizedFrom sectors plan entry) after) before

-- and each image at each moment is the old one, or the resized one.
abbrev pub LeavesResizing : (sectors : ℕ) → Plan → (before after : List Content) → Type 0
LeavesResizing sectors plan before after = (entry : Image) → HasNow (λ c. IsSettledFrom sectors plan entry c
    → EachMoment before after (EachImage (IsResizedOrNot (present_format sectors plan)
    (cells_on (present_format sectors plan) entry)))) before
