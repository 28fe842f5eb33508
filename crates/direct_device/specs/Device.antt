-- Which device of `device_model` a device in direct mode is, by what it keeps beside its disk and what the disk tells.
use Rattle.std.specs.Prelude.{◌≡◌, List, [], Some}
use Rattle.disk_model.specs.Disk.{Content, Image}
use Rattle.disk_model.specs.Identity.{DiskIdentity}
use Rattle.disk_model.specs.Moments.{content_now}
use Rattle.device_model.specs.Device.{DeviceKind}
use Rattle.device_model.specs.Mode.{DeviceFormat, Direct}
use Rattle.device_model.specs.Progress as Model
use Rattle.place_model.specs.Kind.{placed_kind}
use Rattle.direct_model.specs.DirectDisk.{DirectDisk}
use Rattle.direct_mode.specs.Device.{IsDirectDevice}
use Rattle.direct_mode.specs.MomentLaws.{HasBlocksOf, IsLeftNow, kind_of}
use Rattle.direct_mode.specs.Cells.{HasCells}
use Rattle.request_slots.specs.Flight.{Flight}
use Rattle.request_slots.specs.InFlight.{IsFlightOf}
use Rattle.device_parts.specs.declared.condition.Condition.{Condition}
use Rattle.device_parts.specs.declared.condition.Condition.TheVariants as Conditions
use Rattle.device_parts.specs.declared.parts.Parts.{Parts}
use Rattle.device_parts.specs.Device as Devices
use Rattle.device_parts.specs.Device.{DeviceMode, HasDone, Standing, condition_of, rule_on}
use Rattle.recalculate_laws.specs.Formats.{IsFormatOf}
use Rattle.recalculation.specs.declared.recalculating.Recalculation.{Recalculation}
use Rattle.recalculation.specs.Recalculation.{IsRecalculationOf}
use Rattle.direct_device.specs.declared.parts.DirectParts.{DirectParts}

-- ---- what is true of each device

-- What is kept is of this disk, and the regions are those of its blocks.
pub record IsReady (parts : Parts) (recalculation : Recalculation) (disk : DiskIdentity) (moments : List Content)
    : Type 0 where
  pub parts_ : Devices.IsReady parts disk moments
  pub geometry : recalculation.awaiting.geometry ≡ parts.tags.geometry

-- What a device in direct mode keeps.
abbrev pub kept : Parts → Recalculation → DirectParts
kept parts recalculation = record { parts = parts; recalculation = recalculation }

-- ---- over its disk

-- A device of `device_model` in direct mode: its format and state, its disk, and the image that it was opened on.
pub record DirectStanding : Type 0 where
  pub format : DeviceFormat
  pub state : Model.DeviceState
  pub disk : DirectDisk
  pub entry : Image

-- The same device after an event, with this disk.
abbrev pub standing_then : DirectStanding → Model.Event → DirectDisk → DirectStanding
standing_then w event disk = record {
  format = w.format;
  state = Model.after_event w.format w.state event;
  disk = disk;
  entry = w.entry;
}

-- While it works, its disk has the cells with the tags that the store gives, and the regions that await are those of
-- the device, under the fields of the disk.
pub record Works (w : DirectStanding) (parts : Parts) (recalculation : Recalculation) (moments : List Content)
    : Type 0 where
  pub cells : HasCells w.disk w.state.progress.regions.awaiting parts.tags moments
  pub recalculation_ : IsRecalculationOf w.disk.superblock w.disk.geometry w.state.progress.regions.awaiting
      recalculation

-- What is kept is that of this device, whose disk tells its content: the requests in flight, the tags' rule and, as
-- long as it works, the cells and the regions. The disk has the blocks of the image that it was opened on, whatever the
-- fields say of the position. Each image of the disk can be opened, and may be left by the history.
pub record IsOverDisk (w : DirectStanding) (condition : Condition) (parts : Parts) (recalculation : Recalculation)
    (moments : List Content) : Type 0 where
  pub device : IsDirectDevice w.format w.state w.disk
  pub opened : HasBlocksOf w.entry w.disk
  pub flight : IsFlightOf w.format parts.slots w.state.progress.requests
  pub rule : parts.maker ≡ rule_on w.disk.format
  pub condition_ : w.state.condition ≡ condition_of condition
  pub told : Content
  pub is_told : content_now moments ≡ Some told
  pub works : condition ≡ Conditions.Working → Works w parts recalculation moments
  pub left : IsLeftNow (kind_of w.disk) w.entry w.state.history moments

-- ---- as a device of any mode

-- The device, over this disk.
abbrev pub standing_on : Standing → DirectDisk → DirectStanding
standing_on w disk = record { format = w.format; state = w.state; disk = disk; entry = w.entry }

-- It is one over some disk of its format, but for what is to be recalculated,
pub record IsDirect (w : Standing) (condition : Condition) (device : DirectParts) (moments : List Content)
    : Type 0 where
  pub disk : DirectDisk
  pub format : IsFormatOf w.on disk.format
  pub over : IsOverDisk (standing_on w disk) condition device.parts device.recalculation moments

-- and opened by superblock and geometry alone.
abbrev pub placed_on : Standing → DeviceKind
placed_on w = placed_kind w.on.key w.on.sectors

-- Direct mode, whatever the journal says.
abbrev pub in_direct : DeviceMode DirectParts
in_direct = record {
  IsDevice = IsDirect;
  IsReady = λ condition device disk moments. IsReady device.parts device.recalculation disk moments;
  parts = λ device. device.parts;
  mode_of = λ device. Direct;
  kind = placed_on;
}

-- ---- laws

-- An event keeps the device that calls no disk, and changes nothing but its requests.
abbrev pub QuietLaw : Type 0
QuietLaw = (w : Standing) (condition : Condition) (device : DirectParts) (flight : Flight) (moments : List Content)
    (event : Model.Event) → IsDirect w condition device moments
    → let result = Model.event_result w.format w.state event in result.changes ≡ []
    → result.progress.regions ≡ w.state.progress.regions
    → IsFlightOf w.format flight result.progress.requests
    → (Model.after_event w.format w.state event).condition ≡ w.state.condition
    → HasDone in_direct w event condition (kept (record device.parts { slots = flight }) device.recalculation)
    moments moments
