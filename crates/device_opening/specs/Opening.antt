-- What an opening does in any mode: the memory that it takes, why it refuses a disk, and what it leaves at each moment.
use Rattle.std.specs.Prelude.{◌≡◌, ◌≢◌, ℕ, ◌*◌, Option, Some, None, List, Result, Err, IsErr, length}
use Rattle.disk_model.specs.Disk.{Content, EachImage, Image, last_image, newest_only}
use Rattle.disk_model.specs.Identity.{DiskIdentity}
use Rattle.disk_model.specs.Moments.{EachMoment, EachSince, HasNow}
use Rattle.image_model.specs.Geometry.{Geometry, journal_sectors}
use Rattle.image_model.specs.Superblock.{Superblock}
use Rattle.device_model.specs.Mode.{Journal, Mode}
use Rattle.place_model.specs.Format.{DiskFormat, HasCells, OpensAs, cells_on}
use Rattle.place_model.specs.Kind.{kind_in}
use Rattle.place_model.specs.Opened.{next_on}
use Rattle.image_format.specs.declared.reading.ImageFormat.{ImageFormat}
use Rattle.image_refusal.specs.declared.call_fault.CallFault.{CallFault}
use Rattle.image_refusal.specs.declared.call_fault.CallFault.TheVariants as Faults
use Rattle.image_refusal.specs.declared.open_fault.OpenFault.{OpenFault}
use Rattle.judging_model.specs.Faults.{ImageFault, fault_in}
use Rattle.journal_model.specs.Opening.{opened_disk}
use Rattle.buffer_cache.specs.Cache.{sectors_of}
use Rattle.buffer_cache.specs.HeldSectors.{no_sectors}
use Rattle.recalculation.specs.declared.recalculating.Recalculation.{Recalculation}
use Rattle.recalculation.specs.Awaiting.{IsOpening}
use Rattle.recalculation.specs.Position.{CanBeWritten}
use Rattle.tag_store.specs.Store.{IsStore, given_tags}
use Rattle.replay.specs.Emptied.{IsRecoveredAlready, KeepsResting}
use Rattle.replay.specs.Recovery.{LeavesRecovered}
use Rattle.place_model.specs.RecoveryWrites.{IsOfOpening}
pub use Rattle.replay.specs.Writes.{OnlySyncs}
use Rattle.request_slots.specs.Flight.{no_requests}
use Rattle.device_parts.specs.declared.parts.Parts.{Parts}
use Rattle.device_parts.specs.Device.{CanOpenRead, IsReady}
use Rattle.device_opening.specs.declared.judging.JudgedImage.{JudgedImage}
use Rattle.device_opening.specs.declared.recovering.RecoveredImage.{RecoveredImage}
use Rattle.device_opening.specs.declared.room.DeviceRoom.{DeviceRoom}
use Rattle.device_opening.specs.declared.room.RecoveryRoom.{RecoveryRoom}
use Rattle.device_opening.specs.declared.room.TheConstants.{HELD_SECTORS}

-- ---- memory

-- What is allocated has room for requests and one block, and holds no sector of tags.
pub record IsRoomFor (g : Geometry) (room : DeviceRoom) : Type 0 where
  pub cache : sectors_of room.cache ≡ no_sectors HELD_SECTORS
  pub slots : room.slots ≡ no_requests g.blocks (512 * g.shape.spb)
  pub buffer : length room.buffer.items ≡ 512 * g.shape.spb

-- Those regions await that have a block to be recalculated by these fields, the position is theirs, and they may be
-- written.
pub record IsRecalculationFor (s : Superblock) (g : Geometry) (r : Recalculation) : Type 0 where
  pub awaiting : IsOpening s g None r.awaiting
  pub position : r.position ≡ s
  pub written : CanBeWritten s

-- What is allocated for an image in this format has that room, and room for the journal's sectors and for the regions.
pub record IsRecoveryRoomFor (format : ImageFormat) (room : RecoveryRoom) : Type 0 where
  pub device : IsRoomFor format.geometry room.device
  pub pool : length room.pool.bytes ≡ 512 * journal_sectors format.geometry
  pub recalculation_ : IsRecalculationFor format.fields format.geometry room.recalculation

-- ---- an image that is refused

-- An image that is refused for such a fault is synced at most, also where the disk fails.
abbrev pub KeepsRefused : {F : Type 0} → (fault_of : Image → Option F) → (before after : List Content) → Type 0
KeepsRefused {F} fault_of before after =
    HasNow (λ start. (fault : F) → fault_of (last_image start) ≡ Some fault → OnlySyncs before after) before

-- Where the disk did not fail and there was memory, an answer tells the fault that the image has which reads gave, if
-- any.
abbrev pub TellsFault : {T : Type 0} → (fault_of : Image → Option ImageFault) → List Content → Result T (CallFault OpenFault)
    → Type 0
TellsFault fault_of before result = result ≢ Err Faults.Memory → result ≢ Err Faults.Disk
    → HasNow (λ c. fault_in result ≡ fault_of (last_image c)) before

-- An opening tells the fault that the image has. A disk on which nothing is open then is as it was, not even synced,
-- unless it failed.
pub record Refuses {T : Type 0} (fault_of : Image → Option ImageFault) (before after : List Content)
    (result : Result T (CallFault OpenFault)) : Type 0 where
  pub told : TellsFault fault_of before result
  pub untouched : result ≢ Err Faults.Disk → IsErr result → after ≡ before
  pub judged : KeepsRefused fault_of before after

-- ---- what is left at each moment

-- Where the image that reads gave can be opened, each image at each moment since has its cells.
abbrev pub KeepsImage : DiskFormat → (before after : List Content) → Type 0
KeepsImage f before after = HasNow (λ start. OpensAs f (last_image start)
    → EachMoment before after (EachImage (HasCells f (cells_on f (last_image start))))) before

-- Each content since the start comes by an opening.
abbrev pub WritesRecovery : Geometry → (before after : List Content) → Type 0
WritesRecovery g before after = EachSince (IsOfOpening g) before after

-- From an image of this format that was judged, its cells are kept, and these are written.
pub record LeavesImage (f : DiskFormat) (before after : List Content) : Type 0 where
  pub cells : KeepsImage f before after
  pub writes : WritesRecovery f.geometry before after

-- An image whose journal is at rest, with all its entries in their places already, is synced at most.
abbrev pub KeepsRecovered : (geometry_of : Image → Geometry) → (before after : List Content) → Type 0
KeepsRecovered geometry_of before after =
    HasNow (λ start. IsRecoveredAlready (geometry_of (last_image start)) (last_image start)
    → OnlySyncs before after) before

-- Nothing is written of a journal at rest, and no sector at all where its entries are in their places already.
pub record KeepsRest (g : Geometry) (before after : List Content) : Type 0 where
  pub rest : EachSince (λ start. KeepsResting g start (newest_only start)) before after
  pub in_place : KeepsRecovered (λ image. g) before after

-- At each moment each image can be opened, and may be left of the device before its first request.
pub record IsLeftOpening (mode : Mode) (key : Option (List ℕ)) (sectors : ℕ) (before after : List Content)
    : Type 0 where
  pub opens : EachSince (λ start. EachImage (kind_in mode key sectors).CanOpen) before after
  pub left : EachSince (λ start. let image = last_image start in let kind = kind_in mode key sectors in
      EachImage (kind.MayBeLeft image (kind.opened image).history)) before after

-- It is so where the image that reads give can be opened in the mode.
abbrev pub LeavesOpenable : Mode → Option (List ℕ) → (sectors : ℕ) → (before after : List Content) → Type 0
LeavesOpenable mode key sectors before after =
    CanOpenRead mode key sectors before → IsLeftOpening mode key sectors before after

-- ---- an image that is recovered

-- The image that reads gave is recovered, and writing goes on where its walk says.
pub record HasRecovered (f : DiskFormat) (before after : List Content) (image : RecoveredImage) : Type 0 where
  pub left : HasNow (λ start. HasNow (λ c. LeavesRecovered (opened_disk f (last_image start)) image.at
      (given_tags image.tags c) c) after) before
  pub next : HasNow (λ start. image.at.next ≡ next_on Journal f (last_image start)) before

-- What was recovered is of this disk, and of the image that was judged: its blocks and tags lie where that has them,
-- and tags are made by its rule.
pub record IsOfImage (image : JudgedImage) (recovered : RecoveredImage) (disk : DiskIdentity) (moments : List Content)
    : Type 0 where
  pub store : IsStore recovered.tags disk moments
  pub geometry : recovered.tags.geometry ≡ image.format.geometry
  pub maker : recovered.maker ≡ image.maker

-- ---- what is open

-- What is kept of a device is ready for the disk, its regions are those of its blocks, and no request is in flight.
pub record IsUnasked (parts : Parts) (recalculation : Recalculation) (disk : DiskIdentity) (moments : List Content)
    : Type 0 where
  pub ready : IsReady parts disk moments
  pub regions_ : recalculation.awaiting.geometry ≡ parts.tags.geometry
  pub requests : parts.slots ≡ no_requests parts.tags.geometry.blocks (512 * parts.tags.geometry.shape.spb)
