use Rattle.std.proofs.Common.{◌≡◌}
use Rattle.device_parts.specs.declared.condition.Condition.TheVariants.{Working}
use Rattle.device_model.specs.Actors.{actor_of}
use Rattle.device.specs.Answers.{steps_left}
use Rattle.device_parts.specs.Device.{KeepsParts}
use Rattle.device.specs.Calls.{Works}
use Rattle.device.specs.Device.{IsDevice, any_mode}
use Rattle.device_parts.specs.Device.{Standing}
use Rattle.device.specs.Telling.{IsDueIn}
use Rattle.device.proofs.CallLemmas.{IsOnWay}
use Rattle.device.proofs.making_room.step_until_idle.Given as goal

abbrev pub invariant-steps : goal.invariant-steps
invariant-steps g l = record {
  works : Works g.D.Disk.identity g.D.Disk.moments l.device.condition l.device.parts l.device.disk.now;
  slots : l.device.parts.common.slots ≡ l.initial.device.parts.common.slots;
  keeps : KeepsParts any_mode Working l.initial.device.parts l.device.parts
      (g.D.Disk.identity l.initial.device.disk.now) (g.D.Disk.identity l.device.disk.now) (g.D.Disk.moments l.device.disk.now);
  faults : g.D.Counted.faults l.device.disk.now ≡ g.D.Counted.faults l.initial.device.disk.now;
  same_disk : l.device.disk.ghost_name ≡ l.initial.device.disk.ghost_name;
  due : IsDueIn l.actor l.initial.device.parts.mode → IsDueIn l.actor l.device.parts.mode;
  way : (w : Standing) → IsDevice w Working l.initial.device.parts (g.D.Disk.moments l.initial.device.disk.now)
      → IsOnWay w (actor_of l.actor) l.device.parts (g.D.Disk.moments l.initial.device.disk.now)
      (g.D.Disk.moments l.device.disk.now);
}

abbrev pub decreases-steps : goal.decreases-steps
decreases-steps g l = steps_left l.actor l.device.parts.mode
