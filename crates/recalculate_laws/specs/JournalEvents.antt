-- A device in journal mode by the calls of a read, of a step that recalculates and of a close: what it is then, and what may be left
-- at each moment.
-- Own: it is told by what each call leaves of the disk.
use Rattle.std.specs.Prelude.{◌≡◌, ℕ, suc, ◌<◌, Bool, None, Some, List, [], length}
use Rattle.disk_model.specs.Disk.{Content, EachImage, Image}
use Rattle.image_model.specs.Geometry.{regions}
use Rattle.image_model.specs.Superblock.{Superblock}
use Rattle.device_model.specs.History.{History, cells_now}
use Rattle.device_model.specs.Journal.{JournalCounts}
use Rattle.device_model.specs.Mode.{DeviceFormat, Journal}
use Rattle.device_model.specs.Progress.{Close, DeviceState, Event, FailedClose, FailedServe, FailedStep, IsHistoryWithin, Recalc, Serve, Step, Working, after_event}
use Rattle.device_model.specs.Regions.{least_region}
use Rattle.device_model.specs.Request.{Asked, Read}
use Rattle.place_model.specs.Format.{format_on, placed_on}
use Rattle.place_model.specs.Kind.{kind_in}
use Rattle.journal_model.specs.JournaledDisk.{JournaledDisk, StandsFor}
use Rattle.journal_model.specs.Ring.{JournalRing}
use Rattle.journal_laws.specs.Device.{IsJournalDevice, IsJournalOf}
use Rattle.journal_laws.specs.EventLaws.{IsServed}
use Rattle.direct_laws.specs.MomentLaws.{IsLeftNow, IsLeftThrough}
use Rattle.recalculate_laws.specs.Calls.{IsCutThrough, IsSettledNow, MovesHeadBy, MovesPositionBy, moved_disk}
use Rattle.recalculate_laws.specs.Device.{HasBlocksOf}
use Rattle.recalculate_laws.specs.JournalDisk.{IsMoved}
use Rattle.recalculate_laws.specs.Moments.{awaiting_then}
use Rattle.recalculate_laws.specs.Position.{HasPosition, moved_fields}
use Rattle.recalculate_laws.specs.Taking.{KeepsAwaitingNow, TakesRegion}

-- What is a cut of the disk may be left within an event, whatever the call does to the history,
abbrev pub CutLeftLaw : Type 0
CutLeftLaw = (f : DeviceFormat) (s : DeviceState) (event : Event) (h : History) (j : JournalCounts) (d : JournaledDisk)
    (r : JournalRing) (fields : Superblock) (entry : Image) (a b : List Content) → IsHistoryWithin f s event h
    → IsJournalOf f h j d r → IsMoved d fields → HasBlocksOf entry d → IsCutThrough d fields a b
    → IsLeftThrough (kind_in Journal d.key d.sectors) entry f s event a b

-- and what reads give is left by the history then.
abbrev pub KeptLeftLaw : Type 0
KeptLeftLaw = (f : DeviceFormat) (h : History) (j : JournalCounts) (d : JournaledDisk) (r : JournalRing)
    (entry : Image) (awaiting : ℕ → Bool) (tags : Content → ℕ → List ℕ) (a : List Content) → IsJournalOf f h j d r
    → HasBlocksOf entry d → KeepsAwaitingNow d awaiting tags a
    → IsLeftNow (kind_in Journal d.key d.sectors) entry h a

-- After an event the device is one with this disk. At each moment of the call each image can be opened, and may be left
-- within the event; and at its end by the history then.
pub record KeepsDevice (f : DeviceFormat) (s : DeviceState) (event : Event) (entry : Image) (d then_ : JournaledDisk)
    (r : JournalRing) (before after : List Content) : Type 0 where
  pub device : IsJournalDevice f (after_event f s event) then_ r
  pub opened : HasBlocksOf entry then_
  pub through : IsLeftThrough (kind_in Journal d.key d.sectors) entry f s event before after
  pub now : IsLeftNow (kind_in Journal d.key d.sectors) entry (after_event f s event).history after

-- What a step begins with: a device that works, over the blocks of the image that it was opened on, the least region that
-- awaits, and fields that say what is to be recalculated.
pub record EntersStep (f : DeviceFormat) (s : DeviceState) (d : JournaledDisk) (r : JournalRing) (region : ℕ)
    (tags : Content → ℕ → List ℕ) (entry : Image) (moments : List Content) : Type 0 where
  pub device : IsJournalDevice f s d r
  pub works : s.condition ≡ Working
  pub least : least_region (regions d.geometry) s.progress.regions.awaiting ≡ Some region
  pub keeps : KeepsAwaitingNow d s.progress.regions.awaiting tags moments
  pub position : HasPosition d.superblock
  pub opened : HasBlocksOf entry d

-- A step recalculates the region and moves the position.
abbrev pub StepCallsLaw : Type 0
StepCallsLaw = (f : DeviceFormat) (s : DeviceState) (d : JournaledDisk) (r : JournalRing) (region : ℕ)
    (tags made now : Content → ℕ → List ℕ) (entry : Image) (a m b : List Content)
    → EntersStep f s d r region tags entry a → TakesRegion d.format region tags made a m
    → let awaiting = awaiting_then region s.progress.regions.awaiting in
    MovesPositionBy d.format awaiting made now m b
    → KeepsDevice f s (Step Recalc) entry d (moved_disk d awaiting) r a b
    × KeepsAwaitingNow (moved_disk d awaiting) awaiting now b

-- Where the disk fails in it the device is one on the disk as it was: at each moment each image is a cut of that.
abbrev pub FailedStepLaw : Type 0
FailedStepLaw = (f : DeviceFormat) (s : DeviceState) (d : JournaledDisk) (r : JournalRing) (region : ℕ)
    (tags : Content → ℕ → List ℕ) (entry : Image) (a b : List Content) → EntersStep f s d r region tags entry a
    → IsCutThrough d (moved_fields d.superblock d.geometry (awaiting_then region s.progress.regions.awaiting)) a b
    → KeepsDevice f s (FailedStep Recalc) entry d d r a b

-- So it is of every event that leaves the device on its disk: of a read too that recalculates its region first, and of one in
-- which the disk fails.
abbrev pub KeptDeviceLaw : Type 0
KeptDeviceLaw = (f : DeviceFormat) (s : DeviceState) (event : Event) (d : JournaledDisk) (r : JournalRing)
    (fields : Superblock) (awaiting : ℕ → Bool) (tags : Content → ℕ → List ℕ) (entry : Image) (a b : List Content)
    → IsJournalDevice f s d r → IsJournalDevice f (after_event f s event) d r → IsMoved d fields → HasBlocksOf entry d
    → KeepsAwaitingNow d awaiting tags a → IsCutThrough d fields a b → KeepsDevice f s event entry d d r a b

-- The disk fails in a read, which leaves the device on its disk,
abbrev pub FailedReadLaw : Type 0
FailedReadLaw = (f : DeviceFormat) (s : DeviceState) (d : JournaledDisk) (r : JournalRing) (k : ℕ) (a : Asked)
    (first count : ℕ) → IsJournalDevice f s d r → IsServed s k a → a.request ≡ Read first count
    → IsJournalDevice f (after_event f s (FailedServe (suc k))) d r

-- so both do that read a block, and recalculate its region first where that awaits and no section holds the block.
abbrev pub ReadCallsLaw : Type 0
ReadCallsLaw = (f : DeviceFormat) (s : DeviceState) (d : JournaledDisk) (r : JournalRing) (k : ℕ) (a : Asked)
    (first count : ℕ) (awaiting : ℕ → Bool) (tags : Content → ℕ → List ℕ) (entry : Image) (before after : List Content)
    → IsJournalDevice f s d r → IsServed s k a → a.request ≡ Read first count → HasBlocksOf entry d
    → KeepsAwaitingNow d awaiting tags before → IsCutThrough d d.superblock before after
    → KeepsDevice f s (Serve (suc k)) entry d d r before after
    × KeepsDevice f s (FailedServe (suc k)) entry d d r before after

-- ---- a close

-- A close that has committed all, and placed what it will, moves the position last, and is done.
abbrev pub CloseCallsLaw : Type 0
CloseCallsLaw = (f : DeviceFormat) (s : DeviceState) (j : JournalCounts) (d : JournaledDisk) (r : JournalRing)
    (awaiting : ℕ → Bool) (tags now : Content → ℕ → List ℕ) (entry : Image) (a b : List Content)
    → s.condition ≡ Working → s.history.pending ≡ None → IsJournalOf f s.history j d r → r.opened ≡ []
    → HasBlocksOf entry d → HasPosition d.superblock → KeepsAwaitingNow d awaiting tags a
    → IsSettledNow d.geometry tags a → MovesHeadBy d.format awaiting tags now a b
    → let then_ = moved_disk d awaiting in
    IsJournalOf f (after_event f s Close).history j then_ r × KeepsAwaitingNow then_ awaiting now b
    × IsLeftThrough (kind_in Journal d.key d.sectors) entry f s Close a b
    × IsLeftNow (kind_in Journal d.key d.sectors) entry (after_event f s Close).history b

-- Where the disk fails in one each image may be left all the same, by the history as it was.
abbrev pub FailedCloseLaw : Type 0
FailedCloseLaw = (f : DeviceFormat) (s : DeviceState) (j : JournalCounts) (d : JournaledDisk) (r : JournalRing)
    (fields : Superblock) (awaiting : ℕ → Bool) (tags : Content → ℕ → List ℕ) (entry : Image) (a b : List Content)
    → IsJournalOf f s.history j d r → IsMoved d fields → HasBlocksOf entry d → KeepsAwaitingNow d awaiting tags a
    → IsCutThrough d fields a b → IsLeftThrough (kind_in Journal d.key d.sectors) entry f s FailedClose a b
    × IsLeftNow (kind_in Journal d.key d.sectors) entry (after_event f s FailedClose).history b

-- Behind one each image has in place of each block the cell that the history gives it, by the image's own fields: the tag of a
-- block that awaits still is that of its bytes.
abbrev pub ClosedCellsLaw : Type 0
ClosedCellsLaw = (f : DeviceFormat) (h : History) (j : JournalCounts) (d : JournaledDisk) (r : JournalRing) (c : Content)
    → IsJournalOf f h j d r → h.pending ≡ None → r.opened ≡ [] → d.settled ≡ length d.entries → StandsFor d c
    → EachImage (λ image. (b : ℕ) → b < d.geometry.blocks
    → placed_on (format_on d.key d.sectors image) image b ≡ cells_now f.blocks.tag h b) c
