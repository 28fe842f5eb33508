-- How a run ends at its close.
use Rattle.std.specs.Prelude.{◌≢◌, ◌≡◌, ℕ, ◌≤◌, List, Option, Result, Ok, Err}
use Rattle.disk_model.specs.Disk.{Content}
use Rattle.run_model.specs.Ending.{Ending, Complete, Failed}
use Rattle.device_parts.specs.declared.condition.Condition.TheVariants.{Working}
use Rattle.device_parts.specs.Device.{Standing}
use Rattle.device.specs.declared.mode.DeviceParts.{DeviceParts}
use Rattle.device.specs.Device.{IsDevice}
use Rattle.command_ending.specs.declared.ended.Ended.{Ended}
use Rattle.command_ending.specs.declared.ended.Ended.TheVariants as Endings
use Rattle.script_text.specs.declared.tags_found.TagsFound.{TagsFound}
use Rattle.script_text.specs.Found.{finds_fault}
use Rattle.command_run.specs.declared.closing.CloseFault.{CloseFault}
use Rattle.command_run.specs.declared.closing.CloseFault.TheVariants.{Disk, Sink}
use Rattle.command_run.specs.Stopping.{IsStopped, only_close}
use Rattle.run_model.specs.declared.outer.Outer.TheVariants as outers

-- The counts of faults of disk and sink never fall, and each rises only where it is what failed.
pub record HasCloseCounts (disk_before disk sink_before sink : ℕ) (result : Result TagsFound CloseFault) : Type 0 where
  pub disk_later : disk_before ≤ disk
  pub sink_later : sink_before ≤ sink
  pub disk_passed : result ≢ Err Disk → disk ≡ disk_before
  pub sink_passed : result ≢ Err Sink → sink ≡ sink_before

-- The ending that each fault stands for.
abbrev pub fault_ending : CloseFault → Ending
fault_ending Disk = Failed outers.Disk
fault_ending Sink = Failed outers.Sink

-- What ended a run with such a close.
abbrev pub fault_ended : CloseFault → Ended
fault_ended Disk = Endings.Failed outers.Disk
fault_ended Sink = Endings.Failed outers.Sink

abbrev pub ended_close : Result TagsFound CloseFault → Result TagsFound Ended
ended_close (Ok found) = Ok found
ended_close (Err fault) = Err (fault_ended fault)

abbrev pub close_ending : Result TagsFound CloseFault → Ending
close_ending (Ok found) = Complete (finds_fault found)
close_ending (Err fault) = fault_ending fault

-- The close of a device that works stops a run so, of which nothing else is left.
abbrev pub StopsAtClose : {D O : Type 0} → (D → List Content) → (O → Option (List ℕ)) → TagsFound
    → Result TagsFound CloseFault → DeviceParts → (first last : D) → (sink out : O) → Type 0
StopsAtClose moments held found result parts first last sink out = (w : Standing)
    → IsDevice w Working parts (moments first)
    → IsStopped w (only_close w found) (close_ending result) (moments first) (moments last) (held sink) (held out)
