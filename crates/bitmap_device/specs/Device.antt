-- Which device of `device_model` a device in bitmap mode is, by what it keeps beside its disk and what the disk tells.
use Rattle.std.specs.Prelude.{◌≡◌, ℕ, ◌<◌, Bool, false, List, [], Some}
use Rattle.std.specs.List.{Any}
use Rattle.disk_model.specs.Disk.{Content, EachImage, Image}
use Rattle.disk_model.specs.Identity.{DiskIdentity}
use Rattle.disk_model.specs.Moments.{EachMoment, HasNow, content_now}
use Rattle.image_model.specs.Bitmap.{is_dirty}
use Rattle.image_model.specs.Cells.{placed_cells_of}
use Rattle.image_model.specs.Geometry.{region_of}
use Rattle.device_model.specs.Device.{DeviceKind}
use Rattle.device_model.specs.History.{History}
use Rattle.device_model.specs.Mode.{DeviceFormat, Bitmap}
use Rattle.device_model.specs.Progress as Model
use Rattle.device_model.specs.Cut.{all_writes}
use Rattle.place_model.specs.Format.{DiskFormat, IsReadAs, cells_on}
use Rattle.place_model.specs.Kind.{kind_in}
use Rattle.bitmap_model.specs.BitmapDisk.{BitmapDisk}
use Rattle.bitmap_laws.specs.Device.{IsBitmapDevice}
use Rattle.bitmap_laws.specs.MomentLaws.{HasBlocksOf}
use Rattle.direct_laws.specs.MomentLaws.{IsLeftNow}
use Rattle.request_slots.specs.Flight.{Flight}
use Rattle.request_slots.specs.InFlight.{IsFlightOf}
use Rattle.device_parts.specs.declared.condition.Condition.{Condition}
use Rattle.device_parts.specs.declared.condition.Condition.TheVariants.{Working}
use Rattle.device_parts.specs.declared.parts.Parts.{Parts}
use Rattle.device_parts.specs.Device as Devices
use Rattle.device_parts.specs.Device.{DeviceMode, HasDone, Standing, condition_of, rule_on}
use Rattle.bitmap_mode.specs.Standing.{StandsAs}
use Rattle.bitmap_mode.specs.States.{States}
use Rattle.bitmap_device.specs.declared.parts.BitmapParts.{BitmapParts}

-- ---- what is true of each device

-- What is kept is of this disk, and the regions are those of its blocks.
pub record IsReady (parts : Parts) (regions : States) (disk : DiskIdentity) (moments : List Content) : Type 0 where
  pub parts_ : Devices.IsReady parts disk moments
  pub geometry : regions.geometry ≡ parts.tags.geometry

-- What a device in bitmap mode keeps.
abbrev pub kept : Parts → States → BitmapParts
kept parts regions = record { parts = parts; regions = regions }

-- ---- over its disk

-- A device of `device_model` in bitmap mode: its format and state, its disk, and the image that it was opened on.
pub record BitmapStanding : Type 0 where
  pub format : DeviceFormat
  pub state : Model.DeviceState
  pub disk : BitmapDisk
  pub entry : Image

-- The same device after an event, with this disk.
abbrev pub standing_then : BitmapStanding → Model.Event → BitmapDisk → BitmapStanding
standing_then w event disk = record {
  format = w.format;
  state = Model.after_event w.format w.state event;
  disk = disk;
  entry = w.entry;
}

-- The bit of this region was set in the image that the device was opened on.
abbrev pub marked_on : BitmapStanding → ℕ → Bool
marked_on w = is_dirty w.disk.geometry w.entry

-- The kind of device that a disk is opened by in bitmap mode.
abbrev pub kind_on : DiskFormat → DeviceKind
kind_on d = kind_in Bitmap d.key d.sectors

-- What is kept is that of this device, whose disk tells its content: the requests in flight, the tags' rule and, as
-- long as it works, the regions and the tags. The history began with the cells of the image that it was opened on. Each
-- image of the disk can be opened, and may be left by the history.
pub record IsOverDisk (w : BitmapStanding) (condition : Condition) (parts : Parts) (regions : States)
    (moments : List Content) : Type 0 where
  pub device : IsBitmapDevice w.format w.state w.disk
  pub reads : IsReadAs w.disk.format w.entry
  pub opened : HasBlocksOf w.entry w.disk
  pub base : (b : ℕ) → b < w.disk.geometry.blocks → w.state.history.base b ≡ cells_on w.disk.format w.entry b
  pub flight : IsFlightOf w.format parts.slots w.state.progress.requests
  pub rule : parts.maker ≡ rule_on w.disk.format
  pub condition_ : w.state.condition ≡ condition_of condition
  pub told : Content
  pub is_told : content_now moments ≡ Some told
  pub stands : condition ≡ Working → StandsAs w.disk (marked_on w) regions parts.tags moments
  pub left : IsLeftNow (kind_on w.disk.format) w.entry w.state.history moments

-- ---- as a device of any mode

-- The device, over this disk.
abbrev pub standing_on : Standing → BitmapDisk → BitmapStanding
standing_on w disk = record { format = w.format; state = w.state; disk = disk; entry = w.entry }

-- It is one over some disk of its format.
pub record IsBitmapped (w : Standing) (condition : Condition) (device : BitmapParts) (moments : List Content)
    : Type 0 where
  pub disk : BitmapDisk
  pub format : disk.format ≡ w.on
  pub over : IsOverDisk (standing_on w disk) condition device.parts device.regions moments

-- Bitmap mode.
abbrev pub in_bitmap : DeviceMode BitmapParts
in_bitmap = record {
  IsDevice = IsBitmapped;
  IsReady = λ condition device disk moments. IsReady device.parts device.regions disk moments;
  parts = λ device. device.parts;
  mode_of = λ device. Bitmap;
  kind = λ w. kind_on w.on;
}

-- ---- the tags of blocks whose region's bit was clear

-- The block has no write in the history, and none of it is under way.
abbrev pub IsUnwritten : History → ℕ → Type 0
IsUnwritten h b = Any (λ write. write.block ≡ b) (all_writes h) → ⊥

-- The tag of each block without a write, whose region's bit was clear in the image that was opened, is in its place as
-- it was in that one.
pub record KeepsTags (w : Standing) (image : Image) : Type 0 where
  pub each : (b : ℕ) → b < w.on.geometry.blocks → is_dirty w.on.geometry w.entry (region_of w.on.geometry b) ≡ false
      → IsUnwritten w.state.history b
      → (placed_cells_of w.on.geometry image b).tag ≡ (placed_cells_of w.on.geometry w.entry b).tag

-- So it is in each image at each moment of a call, by the history after one of these events.
abbrev pub KeepsTagsIn : Standing → Model.Event → (before after : List Content) → Type 0
KeepsTagsIn w event before after = EachMoment before after (EachImage (KeepsTags (Devices.standing_after w event)))

-- And so in a call of any device that works.
abbrev pub KeepsTagsBy : Model.Event → BitmapParts → (before after : List Content) → Type 0
KeepsTagsBy event device before after = (w : Standing) → IsBitmapped w Working device before
    → KeepsTagsIn w event before after

-- ---- laws

-- An event keeps the device that calls no disk, and changes nothing but its requests.
abbrev pub QuietLaw : Type 0
QuietLaw = (w : Standing) (condition : Condition) (device : BitmapParts) (flight : Flight) (moments : List Content)
    (event : Model.Event) → IsBitmapped w condition device moments
    → let result = Model.event_result w.format w.state event in result.changes ≡ []
    → result.progress.regions ≡ w.state.progress.regions
    → IsFlightOf w.format flight result.progress.requests
    → (Model.after_event w.format w.state event).condition ≡ w.state.condition
    → HasDone in_bitmap w event condition (kept (record device.parts { slots = flight }) device.regions) moments moments

-- Between calls the tags of such blocks are those of the image that was opened.
abbrev pub KeptTagsLaw : Type 0
KeptTagsLaw = (w : Standing) (device : BitmapParts) (moments : List Content) → IsBitmapped w Working device moments
    → HasNow (EachImage (KeepsTags w)) moments
