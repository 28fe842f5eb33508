-- Which device of `device_model` a device is, by what it keeps beside its disk and what the disk tells, with its mode
-- as a parameter.
use Rattle.std.specs.Prelude.{◌≡◌, ℕ, ◌*◌, List, Option, Result, IfOk, OnErr, OnOk, length, map}
use Rattle.disk_model.specs.Disk.{Content, Image, last_image}
use Rattle.disk_model.specs.Identity.{DiskIdentity}
use Rattle.disk_model.specs.Moments.{HasNow}
use Rattle.image_model.specs.Cells.{salt_of}
use Rattle.device_model.specs.Device.{DeviceKind}
use Rattle.device_model.specs.Mode.{DeviceFormat, Mode}
use Rattle.device_model.specs.Progress as Model
use Rattle.place_model.specs.Changed.{judged_image, opened_format}
use Rattle.place_model.specs.Format.{DiskFormat, format_on}
use Rattle.place_model.specs.Kind.{kind_in}
use Rattle.place_model.specs.Opened.{blocks_of}
use Rattle.direct_laws.specs.MomentLaws.{IsLeftNow, IsLeftThrough}
use Rattle.hmac_tag.specs.TagMaker.{TagRule}
use Rattle.tag_store.specs.Store.{IsStore}
use Rattle.request_slots.specs.Flight.{Flight, ask_of, is_in_flight, no_requests}
use Rattle.device_parts.specs.declared.condition.Condition.{Condition}
use Rattle.device_parts.specs.declared.condition.Condition.TheVariants as Conditions
use Rattle.device_parts.specs.declared.parts.Parts.{Parts}

-- ---- what is true of each device

-- What is kept is of this disk, which is bound: the blocks and tags are those of its layout, and the buffer has room
-- for one block.
pub record IsReady (parts : Parts) (disk : DiskIdentity) (moments : List Content) : Type 0 where
  pub store : IsStore parts.tags disk moments
  pub blocks : parts.slots.blocks ≡ parts.tags.geometry.blocks
  pub block_size : parts.slots.block_size ≡ 512 * parts.tags.geometry.shape.spb
  pub spb : parts.spb ≡ parts.tags.geometry.shape.spb
  pub tag_size : parts.maker.size ≡ parts.tags.geometry.shape.tag_size
  pub buffer : length parts.buffer.items ≡ parts.slots.block_size

-- The same requests are in flight, for the same blocks, each as far as it is.
pub record KeepsFlight (old new : Flight) : Type 0 where
  pub blocks : new.blocks ≡ old.blocks
  pub block_size : new.block_size ≡ old.block_size
  pub submitted : new.submitted ≡ old.submitted
  pub same : (ticket : ℕ) → is_in_flight ticket new ≡ is_in_flight ticket old
  pub asks : map ask_of new.slots ≡ map ask_of old.slots

-- ---- which device it is

-- A device of `device_model`: its format and state, its disk's format, and the image that it was opened on.
pub record Standing : Type 0 where
  pub format : DeviceFormat
  pub state : Model.DeviceState
  pub on : DiskFormat
  pub entry : Image

-- The same device after an event.
abbrev pub standing_after : Standing → Model.Event → Standing
standing_after w event = record w { state = Model.after_event w.format w.state event }

-- A device that is open works or is broken.
abbrev pub condition_of : Condition → Model.Condition
condition_of Conditions.Working = Model.Working
condition_of Conditions.Broken = Model.Broken

-- The rule of the disk's tags.
abbrev pub rule_on : DiskFormat → TagRule
rule_on d = record { key = d.key; salt = salt_of d.superblock; size = d.geometry.shape.tag_size }

-- A mode in which such things are kept: when they are those of a device whose disk tells its content; when they are of
-- a disk; what is kept in every mode; which mode it is; and which kind of device opens such disks.
pub record DeviceMode (Kept : Type 0) : Type 1 where
  pub IsDevice : Standing → Condition → Kept → List Content → Type 0
  pub IsReady : Condition → Kept → DiskIdentity → List Content → Type 0
  pub parts : Kept → Parts
  pub mode_of : Kept → Mode
  pub kind : Standing → DeviceKind

-- After a call what is kept is ready for the same disk, in the same mode, with the same requests in flight.
pub record KeepsParts {Kept : Type 0} (mode : DeviceMode Kept) (condition : Condition) (old new : Kept)
    (disk now : DiskIdentity) (after : List Content) : Type 0 where
  pub ready : mode.IsReady condition new now after
  pub same_mode : mode.mode_of new ≡ mode.mode_of old
  pub flight : KeepsFlight (mode.parts old).slots (mode.parts new).slots
  pub identity : now ≡ disk

-- ---- an event

-- After a call the device is the one after an event. At each moment of the call each image can be opened, and may be
-- left within the event.
pub record HasDone {Kept : Type 0} (mode : DeviceMode Kept) (w : Standing) (event : Model.Event) (condition : Condition)
    (kept : Kept) (before after : List Content) : Type 0 where
  pub device : mode.IsDevice (standing_after w event) condition kept after
  pub through : IsLeftThrough (mode.kind w) w.entry w.format w.state event before after

-- The device answers the event so.
abbrev pub Answers : Standing → Model.Event → Model.Answer → Type 0
Answers w event answer = (Model.event_result w.format w.state event).answer ≡ answer

-- It does, and is the one after it.
pub record IsDone {Kept : Type 0} (mode : DeviceMode Kept) (w : Standing) (event : Model.Event) (answer : Model.Answer)
    (condition : Condition) (kept : Kept) (before after : List Content) : Type 0 where
  pub answers : Answers w event answer
  pub done : HasDone mode w event condition kept before after

-- On a device that works a call is this event, and answers as it does; or the disk has failed in it, and the device is
-- broken.
pub record Does {Kept T E : Type 0} (mode : DeviceMode Kept) (event failed : Model.Event) (answer : T → Model.Answer)
    (old new : Kept) (before after : List Content) (result : Result T E) : Type 0 where
  pub done : IfOk result (λ told. (w : Standing) → mode.IsDevice w Conditions.Working old before
      → IsDone mode w event (answer told) Conditions.Working new before after)
  pub err : OnErr result ((w : Standing) → mode.IsDevice w Conditions.Working old before
      → HasDone mode w failed Conditions.Broken new before after)

-- ---- an opening

-- The device that has just been opened in a mode on the image at the start, of which the opening made another one. It
-- is judged by that at the start, but where the mode was changed.
abbrev pub opened_standing : Mode → (key : Option (List ℕ)) → (sectors : ℕ) → (start made : Image) → Standing
opened_standing mode key sectors start made = record {
  format = (kind_in mode key sectors).format start;
  state = (kind_in mode key sectors).opened start;
  on = opened_format mode (format_on key sectors start);
  entry = judged_image mode (format_on key sectors start) start made;
}

-- The image that reads gave can be opened in the mode.
abbrev pub CanOpenRead : Mode → Option (List ℕ) → (sectors : ℕ) → List Content → Type 0
CanOpenRead mode key sectors moments = HasNow (λ c. (kind_in mode key sectors).CanOpen (last_image c)) moments

-- The image by which the device is judged has the blocks of the one at the start, with the same tags, and the format that
-- the opening leaves.
pub record IsOfSameBlocks (mode : Mode) (key : Option (List ℕ)) (sectors : ℕ) (start made : Image) : Type 0 where
  pub blocks : blocks_of (format_on key sectors (opened_standing mode key sectors start made).entry)
      ≡ blocks_of (format_on key sectors start)
  pub format : format_on key sectors (opened_standing mode key sectors start made).entry
      ≡ (opened_standing mode key sectors start made).on

-- The device is open on the image that reads gave, which is one that can be opened, and of which they give another one
-- now. No request is in flight.
pub record HasOpened {Kept : Type 0} (mode : DeviceMode Kept) (asked : Mode) (key : Option (List ℕ)) (disk : DiskIdentity)
    (kept : Kept) (before after : List Content) : Type 0 where
  pub device : HasNow (λ start. HasNow (λ made. mode.IsDevice
      (opened_standing asked key disk.sectors (last_image start) (last_image made)) Conditions.Working kept after) after)
      before
  pub blocks : HasNow (λ start. HasNow (λ made.
      IsOfSameBlocks asked key disk.sectors (last_image start) (last_image made)) after) before
  pub ready : mode.IsReady Conditions.Working kept disk after
  pub asked_ : mode.mode_of kept ≡ asked
  pub requests : (mode.parts kept).slots ≡ no_requests (mode.parts kept).tags.geometry.blocks
      (512 * (mode.parts kept).tags.geometry.shape.spb)
  pub can : CanOpenRead asked key disk.sectors before

-- ---- the end

-- The device ends with an event that answers so. At each moment of the call each image can be opened, and may be left
-- within the event; and at its end by the history then.
pub record HasEnded {Kept : Type 0} (mode : DeviceMode Kept) (w : Standing) (event : Model.Event) (answer : Model.Answer)
    (before after : List Content) : Type 0 where
  pub answers : Answers w event answer
  pub through : IsLeftThrough (mode.kind w) w.entry w.format w.state event before after
  pub left : IsLeftNow (mode.kind w) w.entry (Model.after_event w.format w.state event).history after

-- A device that works is closed, or the disk has failed in that.
pub record Ends {Kept T E : Type 0} (mode : DeviceMode Kept) (old : Kept) (before after : List Content)
    (result : Result T E) : Type 0 where
  pub done : OnOk result ((w : Standing) → mode.IsDevice w Conditions.Working old before
      → HasEnded mode w Model.Close Model.IsClosed before after)
  pub err : OnErr result ((w : Standing) → mode.IsDevice w Conditions.Working old before
      → HasEnded mode w Model.FailedClose Model.DiskFailed before after)
