-- What a run of a script in recovery mode changes.
use Rattle.std.specs.Prelude.{◌≡◌, ℕ, Bool, false, List, take}
use Rattle.disk_model.specs.Disk.{Image}
use Rattle.device_model.specs.History.{Change, with_changes}
use Rattle.device_model.specs.Mode.{DeviceFormat}
use Rattle.device_model.specs.Progress.{DeviceState}
use Rattle.place_model.specs.Format.{DiskFormat}
use Rattle.recovery_laws.specs.Device.{IsRecoveryDevice}
use Rattle.run_model.specs.Ending.{Complete}
use Rattle.run_model.specs.ScriptRun.{ScriptRun, IsRunUpTo, IsRunOf, changes_in}

-- A run that changes nothing, however far it comes, and tells no block whose tag differs.
pub record ChangesNothing (s : DeviceState) (run : ScriptRun) : Type 0 where
  pub made : (count : ℕ) → with_changes (take count (changes_in run.steps)) s.history ≡ s.history
  pub came : (text : List ℕ) (changes : List Change) → IsRunUpTo run text changes
      → with_changes changes s.history ≡ s.history
  pub ends : (found : Bool) → run.ending ≡ Complete found → found ≡ false

-- So is each run of a script on such a device.
abbrev pub RecoveryRunLaw : Type 0
RecoveryRunLaw = (f : DeviceFormat) (s : DeviceState) (d : DiskFormat) (image : Image) (script : List ℕ) (run : ScriptRun)
    → IsRecoveryDevice f s d image → IsRunOf f s script run → ChangesNothing s run
