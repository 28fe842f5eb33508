use Rattle.std.proofs.Common.{◌≡◌, true}
use Rattle.device_parts.specs.declared.condition.Condition.TheVariants.{Working}
use Rattle.device_parts.specs.Answers.{turns_left}
use Rattle.request_slots.specs.Flight.{is_in_flight}
use Rattle.device_parts.specs.Device.{KeepsParts}
use Rattle.device.specs.Calls.{Works}
use Rattle.device_model.specs.Mode as Modes
use Rattle.journal_device.specs.Telling.{KeepsRequest}
use Rattle.device.specs.Device.{IsDevice, any_mode, mode_of}
use Rattle.device_parts.specs.Device.{Standing}
use Rattle.device.proofs.TurnRunLemmas.{IsOnWay}
use Rattle.device.proofs.finishing.finish.Given as goal

abbrev pub invariant-turns : goal.invariant-turns
invariant-turns g l = record {
  works : Works g.D.Disk.identity g.D.Disk.moments l.device.condition l.device.parts l.device.disk.now;
  there : is_in_flight l.ticket l.device.parts.common.slots ≡ true;
  keeps : KeepsParts any_mode Working l.initial.device.parts l.device.parts
      (g.D.Disk.identity l.initial.device.disk.now) (g.D.Disk.identity l.device.disk.now) (g.D.Disk.moments l.device.disk.now);
  faults : g.D.Counted.faults l.device.disk.now ≡ g.D.Counted.faults l.initial.device.disk.now;
  same_disk : l.device.disk.ghost_name ≡ l.initial.device.disk.ghost_name;
  request : mode_of l.initial.device.parts.mode ≡ Modes.Journal
      → KeepsRequest l.ticket l.initial.device.parts.common.slots l.device.parts.common.slots;
  way : (w : Standing) → IsDevice w Working l.initial.device.parts (g.D.Disk.moments l.initial.device.disk.now)
      → IsOnWay w l.ticket l.device.parts (g.D.Disk.moments l.initial.device.disk.now)
      (g.D.Disk.moments l.device.disk.now);
}

abbrev pub decreases-turns : goal.decreases-turns
decreases-turns g l = turns_left l.ticket l.device.parts.common.slots
