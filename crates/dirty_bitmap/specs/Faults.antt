-- What the load of a bitmap may answer.
use Rattle.std.specs.Prelude.{◌≡◌, ◌≢◌, ℕ, ◌≤◌, Result, Err}
use Rattle.disk_model.specs.Causes.{Rose}
use Rattle.dirty_bitmap.specs.declared.faults.BitsFault.{BitsFault}
use Rattle.dirty_bitmap.specs.declared.faults.BitsFault.TheVariants.{Disk}

-- The count of faults never falls; `Disk` comes only where it rose, and else it is as it was.
pub record HasBitsCause {T : Type 0} (before after : ℕ) (result : Result T BitsFault) : Type 0 where
  pub later : before ≤ after
  pub failed : result ≡ Err Disk → Rose before after
  pub passed : result ≢ Err Disk → after ≡ before
