-- A script has one run on a device, and no other.
use Rattle.std.specs.Prelude.{◌≡◌, ℕ, List}
use Rattle.device_model.specs.Mode.{DeviceFormat}
use Rattle.device_model.specs.Progress.{DeviceState}
use Rattle.run_model.specs.ScriptRun.{ScriptRun, IsRunOf}

-- Every script has a run on a device, whichever its bytes are,
abbrev pub HasRunLaw : Type 0
HasRunLaw = (f : DeviceFormat) (s : DeviceState) (script : List ℕ) → (run : ScriptRun) × IsRunOf f s script run

-- and no other: what it prints, does and ends with is told by its bytes.
abbrev pub OneRunLaw : Type 0
OneRunLaw = (f : DeviceFormat) (s : DeviceState) (script : List ℕ) (one other : ScriptRun) → IsRunOf f s script one
    → IsRunOf f s script other → one ≡ other
