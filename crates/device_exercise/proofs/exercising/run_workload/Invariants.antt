use Rattle.std.proofs.Common.{◌≡◌, ◌-◌, ◌≤◌}
use Rattle.workload_model.specs.Workload.{workload_asks}
use Rattle.device_parts.specs.declared.condition.Condition.TheVariants.{Working}
use Rattle.device.specs.Device.{IsDevice}
use Rattle.device_parts.specs.Device.{Standing}
use Rattle.workload.specs.Tally.{lines_in, no_tally}
use Rattle.workload.specs.Workload.{asks_ahead}
use Rattle.device_exercise.specs.Exercising.{StaysWithin}
use Rattle.device_exercise.proofs.ExercisingLemmas.{IsAmong}
use Rattle.device_exercise.proofs.exercising.run_workload.Given as goal

abbrev pub invariant-loop-made : goal.invariant-loop-made
invariant-loop-made g l = record {
  works : l.device.condition ≡ Working;
  stays : StaysWithin l._made l.device.condition l.initial.device.parts l.device.parts l.tickets
      (g.D.Disk.identity l.initial.device.disk.now) (g.D.Disk.identity l.device.disk.now)
      (g.D.Disk.moments l.device.disk.now);
  disk_same : g.D.Counted.faults l.device.disk.now ≡ g.D.Counted.faults l.initial.device.disk.now;
  same_disk : l.device.disk.ghost_name ≡ l.initial.device.disk.ghost_name;
  blocks : l.workload.blocks ≡ l.initial.device.parts.common.slots.blocks;
  lines : lines_in l.tally ≤ l._made;
  faults : l.tally.faults ≤ l._made;
  way : (w : Standing) → IsDevice w Working l.initial.device.parts (g.D.Disk.moments l.initial.device.disk.now)
      → let asks = workload_asks l.fn.count l.fn.seed l.initial.device.parts.common.slots.blocks in
      let ahead = asks_ahead (l.fn.count - l._made) l.workload in
      IsAmong w asks ahead asks ahead no_tally l.tally l.device.parts
      (g.D.Disk.moments l.initial.device.disk.now) (g.D.Disk.moments l.device.disk.now);
}
