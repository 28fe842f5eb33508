use Rattle.std.proofs.Common.{◌≡◌}
use Rattle.device_parts.specs.declared.condition.Condition.TheVariants.{Working}
use Rattle.device.specs.Device.{IsReady}
use Rattle.script_session.specs.Tickets.{AreInFlight}
use Rattle.script_tests.proofs.script_session_tests.run_lines.Given as goal

abbrev pub invariant-loop-line : goal.invariant-loop-line
invariant-loop-line g l = record {
  ready : IsReady l.device.condition l.device.parts (g.D.Disk.identity l.device.disk.now) (g.D.Disk.moments l.device.disk.now);
  works : l.device.condition ≡ Working;
  tickets_ : AreInFlight l.tickets l.device.parts.common.slots;
}
