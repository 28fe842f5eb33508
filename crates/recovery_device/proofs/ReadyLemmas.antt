-- A device stays ready while requests are served.
use Rattle.std.proofs.Common.{◌≡◌, List, length, ap}
use Rattle.disk_model.specs.Disk.{Content}
use Rattle.disk_model.specs.Identity.{DiskIdentity}
use Rattle.tag_store.specs.Store.{IsStore, Store}
use Rattle.device_parts.specs.declared.parts.Parts.{Parts}
use Rattle.device_parts.specs.Device.{KeepsFlight}
use Rattle.device_parts.proofs.ReadyLemmas.{ready_read}
use Rattle.recovery_device.specs.Device.{HasNoWrite, IsReady}

-- It is so with the same requests in flight, each as far as it is, of which none is a write.
pub ready_then : (old new : Parts) (disk now : DiskIdentity) (a b : List Content) → IsReady old disk a → IsStore new.tags now b
    → new.tags ≡ old.tags → KeepsFlight old.slots new.slots → new.spb ≡ old.spb → new.maker ≡ old.maker
    → length new.buffer.items ≡ old.slots.block_size → HasNoWrite new.slots → IsReady new now b
ready_then old new disk now a b ready store tags flight spb maker size no_write = record {
  kept = ready_read old new disk now a b ready.kept store (ap (λ (t : Store). t.geometry) tags) flight spb maker size;
  no_write = no_write;
}
