-- The calls that end a step that recalculates, and a close, as the moments of a disk in direct mode, whatever its journal says.
-- Own: as in journal mode. A device in direct mode is opened by superblock and geometry alone.
use Rattle.std.specs.Prelude.{◌≡◌, ◌⊎◌, ℕ, Bool, Some, List}
use Rattle.disk_model.specs.Disk.{AddsSome, Content, EachImage, Image, newest_only, with_run}
use Rattle.disk_model.specs.Moments.{EachMoment, EachSince, IsChangedBy}
use Rattle.image_model.specs.Geometry.{regions}
use Rattle.image_model.specs.Superblock.{Superblock}
use Rattle.device_model.specs.History.{History}
use Rattle.device_model.specs.Mode.{DeviceFormat}
use Rattle.device_model.specs.Progress.{Close, DeviceState, Event, FailedClose, FailedStep, IsHistoryWithin, Recalc, Step, Working, after_event}
use Rattle.device_model.specs.Regions.{least_region}
use Rattle.direct_model.specs.DirectDisk.{DirectDisk, IsFormed, IsPlacedCutOf}
use Rattle.direct_model.specs.Steps.{IsHistoryOf, IsMoved, after_flush, with_fields}
use Rattle.direct_laws.specs.CallLaws.{KeepsNow, ReadsTagsNow, StandsThrough}
use Rattle.direct_laws.specs.Device.{IsDirectDevice}
use Rattle.direct_laws.specs.MomentLaws.{HasBlocksOf, IsLeftNow, IsLeftThrough, kind_of}
use Rattle.direct_laws.specs.ServeLaws.{KeepsDevice, Syncs}
use Rattle.recalculate_laws.specs.Calls.{IsHeadNow, IsSettledNow, MovesHeadBy, MovesPositionBy, SettlesBy, WritesHead}
use Rattle.recalculate_laws.specs.Moments.{awaiting_then}
use Rattle.recalculate_laws.specs.Position.{HasPosition, moved_fields}
use Rattle.recalculate_laws.specs.Taking.{TakesRegion}

-- The disk under the fields that are written where these regions await.
abbrev pub moved_disk : DirectDisk → (awaiting : ℕ → Bool) → DirectDisk
moved_disk d awaiting = with_fields d (moved_fields d.superblock d.geometry awaiting)

-- At each moment of a call each image is one that a cut leaves, with its placed cells, under the old fields or under these.
abbrev pub IsCutThrough : DirectDisk → (fields : Superblock) → (before after : List Content) → Type 0
IsCutThrough d fields before after =
    EachMoment before after (EachImage (λ image. IsPlacedCutOf d image ⊎ IsPlacedCutOf (with_fields d fields) image))

-- ---- call by call

-- So it is while the disk stands for the same, as while a region is recalculated, tags are written back and all is synced,
abbrev pub DirectStandsCutLaw : Type 0
DirectStandsCutLaw = (d : DirectDisk) (fields : Superblock) (a b : List Content) → StandsThrough d a b
    → IsCutThrough d fields a b

-- which by itself flushes no write,
abbrev pub DirectSyncLaw : Type 0
DirectSyncLaw = (d : DirectDisk) (awaiting : ℕ → Bool) (tags now : Content → ℕ → List ℕ) (a b : List Content)
    → KeepsNow d awaiting tags a → ReadsTagsNow d.geometry tags a → Syncs d.geometry tags now a b
    → KeepsNow d awaiting now b × IsSettledNow d.geometry now b

-- while sector 0 is written,
abbrev pub DirectHeadThroughLaw : Type 0
DirectHeadThroughLaw = (d : DirectDisk) (awaiting : ℕ → Bool) (tags : Content → ℕ → List ℕ) (head : List ℕ)
    (a b : List Content) → KeepsNow d awaiting tags a → IsSettledNow d.geometry tags a → HasPosition d.superblock
    → IsHeadNow d.format awaiting head a → EachSince (AddsSome 0 head) a b
    → IsCutThrough d (moved_fields d.superblock d.geometry awaiting) a b

-- and while that is synced.
abbrev pub DirectHeadSyncThroughLaw : Type 0
DirectHeadSyncThroughLaw = (d : DirectDisk) (awaiting : ℕ → Bool) (tags : Content → ℕ → List ℕ) (head : List ℕ)
    (a m b : List Content) → KeepsNow d awaiting tags a → IsSettledNow d.geometry tags a → HasPosition d.superblock
    → IsHeadNow d.format awaiting head a → IsChangedBy (with_run 0 head) a m
    → EachSince (λ start c. c ≡ newest_only start) m b
    → IsCutThrough d (moved_fields d.superblock d.geometry awaiting) m b

-- Behind that the disk is one under the moved fields, with its cells.
abbrev pub DirectHeadLaw : Type 0
DirectHeadLaw = (d : DirectDisk) (awaiting : ℕ → Bool) (tags mid now : Content → ℕ → List ℕ) (head : List ℕ)
    (a m b : List Content) → KeepsNow d awaiting tags a → IsSettledNow d.geometry tags a → HasPosition d.superblock
    → IsHeadNow d.format awaiting head a → WritesHead d.geometry head tags mid a m → Syncs d.geometry mid now m b
    → KeepsNow (moved_disk d awaiting) awaiting now b

-- ---- calls in a row

-- Once all is written back and synced the disk stands for the same, and for all flushed too, if that is counted,
abbrev pub DirectSettledLaw : Type 0
DirectSettledLaw = (d : DirectDisk) (awaiting : ℕ → Bool) (tags now : Content → ℕ → List ℕ) (a b : List Content)
    → KeepsNow d awaiting tags a → SettlesBy d.geometry tags now a b
    → StandsThrough d a b × KeepsNow d awaiting now b × KeepsNow (after_flush d) awaiting now b
    × IsSettledNow d.geometry now b

-- from there the position moves,
abbrev pub DirectHeadMovedLaw : Type 0
DirectHeadMovedLaw = (d : DirectDisk) (awaiting : ℕ → Bool) (tags now : Content → ℕ → List ℕ) (a b : List Content)
    → KeepsNow d awaiting tags a → IsSettledNow d.geometry tags a → HasPosition d.superblock
    → MovesHeadBy d.format awaiting tags now a b
    → IsCutThrough d (moved_fields d.superblock d.geometry awaiting) a b
    × KeepsNow (moved_disk d awaiting) awaiting now b

-- and so by all of these.
abbrev pub DirectPositionMovedLaw : Type 0
DirectPositionMovedLaw = (d : DirectDisk) (awaiting : ℕ → Bool) (tags now : Content → ℕ → List ℕ) (a b : List Content)
    → KeepsNow d awaiting tags a → HasPosition d.superblock → MovesPositionBy d.format awaiting tags now a b
    → IsCutThrough d (moved_fields d.superblock d.geometry awaiting) a b
    × KeepsNow (moved_disk d awaiting) awaiting now b

-- ---- the device

-- What is a cut of the disk may be left within an event, whatever the call does to the history,
abbrev pub DirectCutLeftLaw : Type 0
DirectCutLeftLaw = (f : DeviceFormat) (s : DeviceState) (event : Event) (h : History) (d : DirectDisk) (fields : Superblock)
    (entry : Image) (a b : List Content) → IsHistoryWithin f s event h → IsFormed d → IsHistoryOf d h → IsMoved d fields
    → HasBlocksOf entry d → IsCutThrough d fields a b → IsLeftThrough (kind_of d) entry f s event a b

-- and by the history then, where it is one at the end.
abbrev pub DirectCutNowLaw : Type 0
DirectCutNowLaw = (h : History) (d : DirectDisk) (fields : Superblock) (entry : Image) (awaiting : ℕ → Bool)
    (tags : Content → ℕ → List ℕ) (a b : List Content) → IsFormed d → IsHistoryOf d h → IsMoved d fields
    → HasBlocksOf entry d → KeepsNow d awaiting tags a → IsCutThrough d fields a b → IsLeftNow (kind_of d) entry h b

-- What a step begins with: a device that works, over the blocks of the image that it was opened on, the least region that
-- awaits, and fields that say what is to be recalculated.
pub record EntersStep (f : DeviceFormat) (s : DeviceState) (d : DirectDisk) (region : ℕ)
    (tags : Content → ℕ → List ℕ) (entry : Image) (moments : List Content) : Type 0 where
  pub device : IsDirectDevice f s d
  pub works : s.condition ≡ Working
  pub least : least_region (regions d.geometry) s.progress.regions.awaiting ≡ Some region
  pub formed : IsFormed d
  pub keeps : KeepsNow d s.progress.regions.awaiting tags moments
  pub position : HasPosition d.superblock
  pub opened : HasBlocksOf entry d

-- A step recalculates the region and moves the position,
abbrev pub DirectStepCallsLaw : Type 0
DirectStepCallsLaw = (f : DeviceFormat) (s : DeviceState) (d : DirectDisk) (region : ℕ)
    (tags made now : Content → ℕ → List ℕ) (entry : Image) (a m b : List Content)
    → EntersStep f s d region tags entry a → TakesRegion d.format region tags made a m
    → let awaiting = awaiting_then region s.progress.regions.awaiting in
    MovesPositionBy d.format awaiting made now m b
    → KeepsDevice f s (Step Recalc) entry d (moved_disk d awaiting) a b
    × KeepsNow (moved_disk d awaiting) awaiting now b × HasBlocksOf entry (moved_disk d awaiting)

-- and where the disk fails in it the device is one on the disk as it was.
abbrev pub DirectFailedStepLaw : Type 0
DirectFailedStepLaw = (f : DeviceFormat) (s : DeviceState) (d : DirectDisk) (region : ℕ) (tags : Content → ℕ → List ℕ)
    (entry : Image) (a b : List Content) → EntersStep f s d region tags entry a
    → IsCutThrough d (moved_fields d.superblock d.geometry (awaiting_then region s.progress.regions.awaiting)) a b
    → KeepsDevice f s (FailedStep Recalc) entry d d a b

-- ---- a close

-- A close flushes all, and then moves the position.
abbrev pub DirectCloseCallsLaw : Type 0
DirectCloseCallsLaw = (f : DeviceFormat) (s : DeviceState) (d : DirectDisk) (awaiting : ℕ → Bool)
    (tags settled now : Content → ℕ → List ℕ) (entry : Image) (a m b : List Content) → IsDirectDevice f s d
    → IsFormed d → s.condition ≡ Working → HasBlocksOf entry d → HasPosition d.superblock
    → KeepsNow d awaiting tags a → SettlesBy d.geometry tags settled a m
    → MovesHeadBy d.format awaiting settled now m b
    → let then_ = moved_disk (after_flush d) awaiting in
    IsHistoryOf then_ (after_event f s Close).history × KeepsNow then_ awaiting now b
    × IsLeftThrough (kind_of d) entry f s Close a b × IsLeftNow (kind_of d) entry (after_event f s Close).history b

-- Where the disk fails in one each image may be left all the same, by the history as it was.
abbrev pub DirectFailedCloseLaw : Type 0
DirectFailedCloseLaw = (f : DeviceFormat) (s : DeviceState) (d : DirectDisk) (fields : Superblock) (awaiting : ℕ → Bool)
    (tags : Content → ℕ → List ℕ) (entry : Image) (a b : List Content) → IsDirectDevice f s d → IsFormed d
    → IsMoved d fields → HasBlocksOf entry d → KeepsNow d awaiting tags a → IsCutThrough d fields a b
    → IsLeftThrough (kind_of d) entry f s FailedClose a b
    × IsLeftNow (kind_of d) entry (after_event f s FailedClose).history b
