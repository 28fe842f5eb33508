-- A block of a device that works has bytes.
use Rattle.std.proofs.Common.{◌≡◌, ◌<◌, List, arith}
use Rattle.disk_model.specs.Disk.{Content}
use Rattle.disk_model.specs.Identity.{DiskIdentity}
use Rattle.device_parts.specs.declared.condition.Condition.{Condition}
use Rattle.device_parts.specs.declared.condition.Condition.TheVariants.{Working}
use Rattle.device_parts.specs.declared.parts.Parts.{Parts}
use Rattle.device_parts.specs.Device as Devices
use Rattle.device.specs.declared.mode.DeviceParts.{DeviceParts}
use Rattle.device.specs.declared.mode.Mode.{Mode}
use Rattle.device.specs.declared.mode.Mode.TheVariants.{Bitmap, Direct, Journal, Recovery}
use Rattle.device.specs.Calls.{Works}
use Rattle.device.specs.Device.{IsReadyIn}

ready_common : (condition : Condition) (mode : Mode) (common : Parts) (disk : DiskIdentity) (moments : List Content) → condition ≡ Working
    → IsReadyIn mode condition common disk moments → Devices.IsReady common disk moments
ready_common condition (Direct recalculation) common disk moments works ready = ready.parts_
ready_common condition (Journal state) common disk moments works ready = ready.parts_ works
ready_common condition (Bitmap regions) common disk moments works ready = ready.parts_
ready_common condition Recovery common disk moments works ready = ready.kept

pub some_bytes : {D : Type 0} (identity : D → DiskIdentity) (moments : D → List Content) (condition : Condition) (parts : DeviceParts) (disk : D)
    → Works identity moments condition parts disk → 0 < parts.common.slots.block_size
some_bytes identity moments condition parts disk works =
    let ready = ready_common condition parts.mode parts.common (identity disk) (moments disk) works.is works.ready in
    let size = ready.block_size in
    let spb = ready.store.geometry.spb.0 in
    omega (arith, size, spb)
