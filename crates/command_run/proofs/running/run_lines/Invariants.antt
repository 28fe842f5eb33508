use Rattle.std.proofs.Common.{◌≡◌, ℕ, ◌+◌, ◌-◌, ◌≤◌, List, length, Some}
use Rattle.std.specs.Option.{IsSomeAnd}
use Rattle.run_model.specs.ScriptRun.{ScriptRun, IsRunOf}
use Rattle.device_parts.specs.declared.condition.Condition.TheVariants.{Working}
use Rattle.device.specs.Device.{IsDevice, IsReady}
use Rattle.device_parts.specs.Device.{Standing}
use Rattle.script_session.specs.Tickets.{AreInFlight}
use Rattle.command_run.specs.Stopping.{IsAt}
use Rattle.script_lines.specs.Taken.{read_by}
use Rattle.command_run.proofs.running.run_lines.Given as goal

abbrev pub invariant-loop-tickets : goal.invariant-loop-tickets
invariant-loop-tickets g l = record {
  ready : IsReady l.device.condition l.device.parts (g.D.Disk.identity l.device.disk.now) (g.D.Disk.moments l.device.disk.now);
  works : l.device.condition ≡ Working;
  flight : AreInFlight l.tickets l.device.parts.common.slots;
  submitted : l.device.parts.common.slots.submitted + 1 ≤ l.number;
  number : l.number ≤ l.reader.taken + 1;
  taken : l.reader.taken ≤ 16777216;
  read : (left : List ℕ) → g.S.Source.left l.initial.script ≡ Some left
      → IsSomeAnd (g.S.Source.left l.script) (λ more. length left ≡ length more + read_by l.reader);
  disk_same : g.D.Counted.faults l.device.disk.now ≡ g.D.Counted.faults l.initial.device.disk.now;
  script_same : g.S.Counted.faults l.script ≡ g.S.Counted.faults l.initial.script;
  sink_same : g.O.Counted.faults l.out ≡ g.O.Counted.faults l.initial.out;
  identity : g.D.Disk.identity l.device.disk.now ≡ g.D.Disk.identity l.initial.device.disk.now;
  same_disk : l.device.disk.ghost_name ≡ l.initial.device.disk.ghost_name;
  way : (w : Standing) (left : List ℕ) (run : ScriptRun)
      → IsDevice w Working l.initial.device.parts (g.D.Disk.moments l.initial.device.disk.now)
      → g.S.Source.left l.initial.script ≡ Some left → IsRunOf w.format w.state left run
      → IsSomeAnd (g.S.Source.left l.script) (λ later. IsAt w run left (g.D.Disk.moments l.initial.device.disk.now)
      (g.O.Sink.held l.initial.out) l.number l.found l.reader later l.device.parts
      (g.D.Disk.moments l.device.disk.now) (g.O.Sink.held l.out));
}

abbrev pub decreases-loop-tickets : goal.decreases-loop-tickets
decreases-loop-tickets g l = 16777216 - l.reader.taken
