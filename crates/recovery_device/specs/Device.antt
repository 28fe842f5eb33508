-- Which device of `device_model` a device in recovery mode is, by what it keeps beside its disk and what the disk tells.
use Rattle.std.specs.Prelude.{◌≡◌, ℕ, List, Option, Some}
use Rattle.std.specs.List.{AllByRecursion}
use Rattle.disk_model.specs.Disk.{Content, last_image}
use Rattle.disk_model.specs.Identity.{DiskIdentity}
use Rattle.disk_model.specs.Moments.{content_now}
use Rattle.device_model.specs.Device.{DeviceKind}
use Rattle.device_model.specs.Mode.{Recovery}
use Rattle.device_model.specs.Progress as Model
use Rattle.place_model.specs.Kind.{kind_in}
use Rattle.recovery_laws.specs.Device.{IsRecoveryDevice}
use Rattle.request_slots.specs.declared.request.Request.{Request}
use Rattle.request_slots.specs.declared.request.Request.TheVariants.{Read, Write, Flush}
use Rattle.request_slots.specs.declared.slot.Slot.{Slot}
use Rattle.request_slots.specs.Flight.{Flight}
use Rattle.request_slots.specs.InFlight.{IsFlightOf}
use Rattle.device_parts.specs.declared.condition.Condition.{Condition}
use Rattle.device_parts.specs.declared.parts.Parts.{Parts}
use Rattle.device_parts.specs.Device as Devices
use Rattle.device_parts.specs.Device.{DeviceMode, HasDone, Standing, condition_of}

-- ---- what is true of each device

-- The request is no write.
abbrev pub WritesNothing : Request → Type 0
WritesNothing (Read first count buffer) = Unit {0}
WritesNothing (Write first count bytes fua) = ⊥
WritesNothing Flush = Unit {0}

-- No write is in flight.
abbrev pub HasNoWrite : Flight → Type 0
HasNoWrite flight = AllByRecursion (λ (slot : Slot). WritesNothing slot.request) flight.slots

-- What is kept is ready as in every mode, and no write is in flight.
pub record IsReady (parts : Parts) (disk : DiskIdentity) (moments : List Content) : Type 0 where
  pub kept : Devices.IsReady parts disk moments
  pub no_write : HasNoWrite parts.slots

-- ---- as a device of any mode

-- What is kept is that of this device, whose disk tells its content: the requests in flight, and the image that it was
-- opened on, which reads give.
pub record IsRecovering (w : Standing) (condition : Condition) (parts : Parts) (moments : List Content)
    : Type 0 where
  pub device : IsRecoveryDevice w.format w.state w.on w.entry
  pub geometry : parts.tags.geometry ≡ w.on.geometry
  pub flight : IsFlightOf w.format parts.slots w.state.progress.requests
  pub condition_ : w.state.condition ≡ condition_of condition
  pub told : Content
  pub is_told : content_now moments ≡ Some told
  pub entry_ : last_image told ≡ w.entry

-- The kind of device that opens such disks so. It asks nothing of an image: that each moment is the one at entry, with what
-- is pending there, is told of each call by itself.
abbrev pub reading_kind : (key : Option (List ℕ)) → (sectors : ℕ) → DeviceKind
reading_kind key sectors = record (kind_in Recovery key sectors) {
  CanOpen = λ image. Unit {0};
  MayBeLeft = λ entry h left. Unit {0};
}

-- Recovery mode. What is kept is that of every mode.
abbrev pub in_recovery : DeviceMode Parts
in_recovery = record {
  IsDevice = IsRecovering;
  IsReady = λ condition parts disk moments. IsReady parts disk moments;
  parts = λ parts. parts;
  mode_of = λ parts. Recovery;
  kind = λ w. reading_kind w.on.key w.on.sectors;
}

-- ---- laws

-- An event keeps the device that calls no disk, with the requests that are in flight then.
abbrev pub QuietLaw : Type 0
QuietLaw = (w : Standing) (condition now : Condition) (parts : Parts) (flight : Flight) (moments : List Content)
    (event : Model.Event) → IsRecovering w condition parts moments
    → IsFlightOf w.format flight (Model.after_event w.format w.state event).progress.requests
    → (Model.after_event w.format w.state event).condition ≡ condition_of now
    → HasDone in_recovery w event now (record parts { slots = flight }) moments moments
