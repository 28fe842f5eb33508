-- The bytes that no tag takes: those of data, of the journal and of all other sectors, and those behind the tags; and
-- what stays with them where tags are put.
use Rattle.std.specs.Prelude.{◌≡◌, ℕ, ◌<◌, List, slice_index}
use Rattle.disk_model.specs.Disk.{Content, OnlyAdds}
use Rattle.disk_model.specs.Identity.{DiskIdentity}
use Rattle.disk_model.specs.Moments.{EachSince, HasNow}
use Rattle.image_model.specs.Geometry.{Geometry}
use Rattle.tag_store.specs.Store.{IsStore, Store, given}
use Rattle.tag_store.specs.StoreLaws.{IsNoByteOf}
use Rattle.recalculation.specs.Awaiting.{AwaitingRegions}

-- No tag takes the byte of the sector.
abbrev pub IsUntagged : Geometry → (sector at : ℕ) → Type 0
IsUntagged g sector at = (b : ℕ) → b < g.blocks → IsNoByteOf g b sector at

-- Each of these bytes is as the store gave it.
pub record HasRest (store : Store) (start : Content) (sector : ℕ) (x : List ℕ) : Type 0 where
  pub each : (at : ℕ) → IsUntagged store.geometry sector at
      → slice_index x at ≡ slice_index (given store start sector) at

-- The store gives each of them as before, and at each moment of a call no candidate with another one was added.
pub record KeepsRest (old new : Store) (before after : List Content) : Type 0 where
  pub geometry : new.geometry ≡ old.geometry
  pub gives : HasNow (λ c. HasNow (λ d. (sector : ℕ) → HasRest old c sector (given new d sector)) after) before
  pub adds : EachSince (λ start. OnlyAdds (HasRest old start) start) before after

-- ---- what a call leaves

-- After a call that puts tags the store is one of the same disk, its tags lie in the same places, and each byte that no
-- tag takes is as it was.
pub record StaysButTags (old new : Store) (disk now : DiskIdentity) (before after : List Content) : Type 0 where
  pub store_ : IsStore new now after
  pub places : new.geometry ≡ old.geometry
  pub rest : KeepsRest old new before after
  pub identity : now ≡ disk

-- So it is after one that recalculates regions, and all that may await lies in the same places.
pub record StaysInPlace (old new : AwaitingRegions) (store last : Store) (disk now : DiskIdentity)
    (before after : List Content) : Type 0 where
  pub geometry : new.geometry ≡ old.geometry
  pub first : new.first ≡ old.first
  pub store_ : IsStore last now after
  pub places : last.geometry ≡ store.geometry
  pub rest : KeepsRest store last before after
  pub identity : now ≡ disk
