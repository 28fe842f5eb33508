use Rattle.std.proofs.Common.{◌≡◌, map, take}
use Rattle.device_parts.specs.declared.condition.Condition.TheVariants.{Working}
use Rattle.device_parts.specs.Device.{KeepsParts}
use Rattle.device.specs.Calls.{Works}
use Rattle.device.specs.Device.{IsDevice, any_mode}
use Rattle.device_parts.specs.Device.{Standing}
use Rattle.device.specs.Run.{HasRun}
use Rattle.script_session.proofs.AllLemmas.{finish_each}
use Rattle.script_session.proofs.finishing.finish_all.Given as goal

abbrev pub invariant-loop-waiting : goal.invariant-loop-waiting
invariant-loop-waiting g l = record {
  works : Works g.D.Disk.identity g.D.Disk.moments l.device.condition l.device.parts l.device.disk.now;
  keeps : KeepsParts any_mode Working l.initial.device.parts l.device.parts
      (g.D.Disk.identity l.initial.device.disk.now) (g.D.Disk.identity l.device.disk.now) (g.D.Disk.moments l.device.disk.now);
  faults : g.D.Counted.faults l.device.disk.now ≡ g.D.Counted.faults l.initial.device.disk.now;
  same_disk : l.device.disk.ghost_name ≡ l.initial.device.disk.ghost_name;
  way : (w : Standing) → IsDevice w Working l.initial.device.parts (g.D.Disk.moments l.initial.device.disk.now)
      → HasRun w (finish_each w.format (map (λ waiting. waiting.ticket) (take l.waiting-index l.tickets.waiting.items)) w.state) l.device.parts
      (g.D.Disk.moments l.initial.device.disk.now) (g.D.Disk.moments l.device.disk.now);
}
