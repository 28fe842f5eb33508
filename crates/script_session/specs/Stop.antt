-- When a line is stopped.
use Rattle.std.specs.Prelude.{◌≡◌, ◌≢◌, ℕ, ◌≤◌, Result, Err}
use Rattle.disk_model.specs.Causes.{Rose}
use Rattle.script_session.specs.declared.stop.Stop.{Stop}
use Rattle.script_session.specs.declared.stop.Stop.TheVariants as Stops

-- The count of faults never falls; the disk stops a line only where it rose, and else it is as it was.
pub record HasStopCause {T : Type 0} (before after : ℕ) (result : Result T Stop) : Type 0 where
  pub later : before ≤ after
  pub failed : result ≡ Err Stops.Disk → Rose before after
  pub passed : result ≢ Err Stops.Disk → after ≡ before
