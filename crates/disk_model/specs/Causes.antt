-- When a call may answer that something outside has failed.
use Rattle.std.specs.Prelude.{◌≡◌, ℕ, ◌+◌, ◌-◌, ◌^◌, ◌≤◌, min, Result, OnErr, OnOk}

-- The count of faults rose, or stands at the end of its type, a u64.
-- Own: a count that no call can lower is the only trace of a fault outside.
abbrev pub Rose : ℕ → ℕ → Type 0
Rose before after = min (before + 1) (2 ^ 64 - 1) ≤ after

-- The count of faults never falls; an error comes only where it rose, and where there is none it is as it was. So no call
-- answers well over one that failed, as a sync that is made again.
pub record HasCause {T E : Type 0} (before after : ℕ) (result : Result T E) : Type 0 where
  pub later : before ≤ after
  pub failed : OnErr result (Rose before after)
  pub passed : OnOk result (after ≡ before)
