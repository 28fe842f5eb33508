-- A disk in journal mode whose tags go through a store, between the calls of its work.
use Rattle.std.specs.Prelude.{◌≡◌, List}
use Rattle.disk_model.specs.Disk.{Content}
use Rattle.disk_model.specs.Identity.{DiskIdentity}
use Rattle.disk_model.specs.Moments.{HasNow}
use Rattle.journal_model.specs.JournaledDisk.{JournaledDisk, IsSound}
use Rattle.journal_model.specs.Steps.{KeepsCells}
use Rattle.tag_store.specs.Store.{IsStore, Store, given_tags}

-- The store has the disk's places, and with the tags that it gives, written or not, the disk stands for this now:
-- reads of the data and these tags are what is placed.
pub record HasCells (d : JournaledDisk) (store : Store) (moments : List Content) : Type 0 where
  pub sound : IsSound d
  pub geometry : d.geometry ≡ store.geometry
  pub now : HasNow (λ c. KeepsCells d (given_tags store c) c) moments

-- The disk is the one that it was, and the store is of it. Tags are in the places where they were.
pub record StaysOnDisk (old new : Store) (disk now : DiskIdentity) (after : List Content) : Type 0 where
  pub store : IsStore new now after
  pub geometry : new.geometry ≡ old.geometry
  pub identity : now ≡ disk
