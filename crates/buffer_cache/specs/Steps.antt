-- What each step of a cache over its disk starts from, and what it keeps.
use Rattle.std.specs.Prelude.{◌≡◌, List}
use Rattle.disk_model.specs.Disk.{Content}
use Rattle.disk_model.specs.Identity.{DiskIdentity, IsBound}
use Rattle.buffer_cache.specs.declared.held.HeldSectors.{HeldSectors}
use Rattle.buffer_cache.specs.Cached.{IsOfDisk, Keeps}

-- The disk has a name, and what is held is of it.
pub record IsOverDisk (sectors : HeldSectors) (disk : DiskIdentity) (moments : List Content) : Type 0 where
  pub bound : IsBound disk.name
  pub cache : IsOfDisk sectors disk moments

-- The disk is the one that it was, what is held is of it, and the cache gives what it gave before.
pub record GivesSame (old new : HeldSectors) (was now : DiskIdentity) (before after : List Content) : Type 0 where
  pub cache : IsOfDisk new now after
  pub keeps : Keeps old new before after
  pub identity : now ≡ was
