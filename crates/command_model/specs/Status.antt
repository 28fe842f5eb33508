-- What the status of a command tells of the faults outside it.
use Rattle.std.specs.Prelude.{◌≡◌, ◌≢◌, ◌⊎◌, ℕ, ◌≤◌}
use Rattle.disk_model.specs.Causes.{Rose}
use Rattle.command_model.specs.World.{Counts, World}

-- It is one of 0 to 7; 4, 5 and 6 come only where a disk, a source or the sink failed; no fault of a disk or source is
-- passed over by another status, nor of the sink by a run that came to its end.
pub record HasStatus (before after : Counts) (status : ℕ) : Type 0 where
  pub low : status ≤ 7
  pub of_disk : status ≡ 4 → Rose before.disk after.disk ⊎ Rose before.second after.second
  pub of_sources : status ≡ 5 → Rose before.key after.key ⊎ Rose before.script after.script
  pub of_sink : status ≡ 6 → Rose before.sink after.sink
  pub disk_passed : status ≢ 4 → (after.disk ≡ before.disk) × (after.second ≡ before.second)
  pub sources_passed : status ≢ 5 → (after.key ≡ before.key) × (after.script ≡ before.script)
  pub sink_passed : status ≤ 1 → after.sink ≡ before.sink

abbrev pub HasStatusIn : {T : Type 0} → (T → World) → (status : ℕ) → (first last : T) → Type 0
HasStatusIn world status first last = HasStatus (world first).faults (world last).faults status
