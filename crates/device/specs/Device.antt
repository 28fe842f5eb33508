-- Which device of `device_model` a device in any mode is, by what it keeps beside its disk and what the disk tells.
use Rattle.std.specs.Prelude.{◌≡◌, ℕ, List, Option}
use Rattle.disk_model.specs.Disk.{Content, EachImage}
use Rattle.disk_model.specs.Identity.{DiskIdentity}
use Rattle.disk_model.specs.Moments.{HasNow}
use Rattle.device_model.specs.Device.{DeviceKind}
use Rattle.device_model.specs.Mode as Model
use Rattle.place_model.specs.Format.{format_on}
use Rattle.place_model.specs.Kind.{kind_in}
use Rattle.request_slots.specs.Flight.{Flight}
use Rattle.device_parts.specs.declared.condition.Condition.{Condition}
use Rattle.device_parts.specs.declared.condition.Condition.TheVariants.{Working}
use Rattle.device_parts.specs.declared.parts.Parts.{Parts}
use Rattle.device_parts.specs.Device.{DeviceMode, Standing}
use Rattle.direct_device.specs.declared.parts.DirectParts.{DirectParts}
use Rattle.direct_device.specs.Device as InDirect
use Rattle.direct_device.specs.Device.{IsDirect, kept as direct_kept}
use Rattle.place_model.specs.EmptyJournal.{HasEmptyJournal}
use Rattle.journal_device.specs.declared.parts.JournalParts.{JournalParts}
use Rattle.journal_device.specs.Device as InJournal
use Rattle.journal_device.specs.Device.{IsJournaled, kept}
use Rattle.place_model.specs.Awaiting.{AwaitsNoMore, fields_of}
use Rattle.device.specs.declared.mode.DeviceParts.{DeviceParts}
use Rattle.device.specs.declared.mode.Mode.{Mode}
use Rattle.recovery_device.specs.Device as InRecovery
use Rattle.recovery_device.specs.Device.{IsRecovering, reading_kind}
use Rattle.bitmap_device.specs.Device as InBitmap
use Rattle.bitmap_device.specs.Device.{IsBitmapped, kept as bitmap_kept}
use Rattle.device.specs.declared.mode.Mode.TheVariants.{Bitmap, Direct, Journal, Recovery}

-- ---- what is true of each device

-- What is kept is of this disk, in the mode.
abbrev pub IsReadyIn : Mode → Condition → Parts → DiskIdentity → List Content → Type 0
IsReadyIn (Direct recalculation) condition common disk moments =
    InDirect.IsReady common recalculation disk moments
IsReadyIn (Journal state) condition common disk moments =
    InJournal.IsReady condition common state disk moments
IsReadyIn (Bitmap regions) condition common disk moments = InBitmap.IsReady common regions disk moments
IsReadyIn Recovery condition common disk moments = InRecovery.IsReady common disk moments

abbrev pub IsReady : Condition → DeviceParts → DiskIdentity → List Content → Type 0
IsReady condition parts disk moments = IsReadyIn parts.mode condition parts.common disk moments

-- The mode that a device is in.
abbrev pub mode_of : Mode → Model.Mode
mode_of (Direct recalculation) = Model.Direct
mode_of (Journal state) = Model.Journal
mode_of (Bitmap regions) = Model.Bitmap
mode_of Recovery = Model.Recovery

-- What is kept, with these requests in flight.
abbrev pub with_slots : DeviceParts → Flight → DeviceParts
with_slots parts flight = record parts { common = record parts.common { slots = flight } }

-- ---- which device it is

-- The kind of device that opens such disks in a mode. In recovery mode it asks nothing of an image.
abbrev pub kind_by : Model.Mode → (key : Option (List ℕ)) → (sectors : ℕ) → DeviceKind
kind_by Model.Recovery key sectors = reading_kind key sectors
kind_by mode key sectors = kind_in mode key sectors

abbrev pub kind_of : Standing → DeviceKind
kind_of w = kind_by w.format.mode w.on.key w.on.sectors

-- It is one in direct mode, over a disk of which each image has an empty journal, by its own fields. As long as it
-- works these say of no block more that it awaits than the image that was opened.
pub record IsEmptied (w : Standing) (condition : Condition) (device : DirectParts) (moments : List Content)
    : Type 0 where
  pub direct : IsDirect w condition device moments
  pub emptied : HasNow (EachImage (λ image. HasEmptyJournal (format_on w.on.key w.on.sectors image) image)) moments
  pub no_more : condition ≡ Working
      → AwaitsNoMore w.on.geometry (fields_of w.entry) device.recalculation.position

-- It is one in journal mode, and as long as it works its fields say of no block more that it awaits.
pub record IsInJournalMode (w : Standing) (condition : Condition) (device : JournalParts) (moments : List Content)
    : Type 0 where
  pub journaled : IsJournaled w condition device moments
  pub no_more : condition ≡ Working → AwaitsNoMore w.on.geometry (fields_of w.entry) device.state.recalculation.position

-- It is one of these, or one in another mode.
abbrev pub IsDeviceIn : Mode → Standing → Condition → Parts → List Content → Type 0
IsDeviceIn (Direct recalculation) w condition common moments =
    IsEmptied w condition (direct_kept common recalculation) moments
IsDeviceIn (Journal state) w condition common moments =
    IsInJournalMode w condition (kept common state) moments
IsDeviceIn (Bitmap regions) w condition common moments = IsBitmapped w condition (bitmap_kept common regions) moments
IsDeviceIn Recovery w condition common moments = IsRecovering w condition common moments

-- What is kept is that of this device, whose disk tells its content.
abbrev pub IsDevice : Standing → Condition → DeviceParts → List Content → Type 0
IsDevice w condition parts moments = IsDeviceIn parts.mode w condition parts.common moments

-- Any mode.
abbrev pub any_mode : DeviceMode DeviceParts
any_mode = record {
  IsDevice = IsDevice;
  IsReady = IsReady;
  parts = λ parts. parts.common;
  mode_of = λ parts. mode_of parts.mode;
  kind = kind_of;
}
