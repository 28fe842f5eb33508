-- A disk that is only read.
use Rattle.std.specs.Prelude.{◌≡◌, List}
use Rattle.disk_model.specs.Disk.{Content}
use Rattle.disk_model.specs.Identity.{DiskIdentity}

-- The disk is the one that it was, and its moments are as they were: no sector was written, and nothing synced.
pub record LeavesDisk (was now : DiskIdentity) (before after : List Content) : Type 0 where
  pub identity : now ≡ was
  pub kept : after ≡ before
