use Rattle.std.proofs.Common.{◌≡◌, ◌+◌, ◌-◌, ◌≤◌, [], map}
use Rattle.std.specs.List.{range_with_len}
use Rattle.workload_model.specs.Exercise.{read_all}
use Rattle.device_parts.specs.declared.condition.Condition.TheVariants.{Working}
use Rattle.device_model.specs.Script.{Read}
use Rattle.device.specs.Device.{IsDevice}
use Rattle.device_parts.specs.Device.{Standing}
use Rattle.device_exercise.specs.Exercising.{StaysWithin}
use Rattle.device_exercise.proofs.ExercisingLemmas.{IsAmong}
use Rattle.device_exercise.proofs.exercising.read_blocks.Given as goal

abbrev pub invariant-loop-block : goal.invariant-loop-block
invariant-loop-block g l = record {
  works : l.device.condition ≡ Working;
  stays : StaysWithin l.block l.device.condition l.initial.device.parts l.device.parts l.tickets
      (g.D.Disk.identity l.initial.device.disk.now) (g.D.Disk.identity l.device.disk.now)
      (g.D.Disk.moments l.device.disk.now);
  disk_same : g.D.Counted.faults l.device.disk.now ≡ g.D.Counted.faults l.initial.device.disk.now;
  same_disk : l.device.disk.ghost_name ≡ l.initial.device.disk.ghost_name;
  faults : l.tally.faults ≤ l.initial.tally.faults + l.block;
  way : (w : Standing) → IsDevice w Working l.initial.device.parts (g.D.Disk.moments l.initial.device.disk.now)
      → IsAmong w (read_all l.initial.device.parts.common.slots.blocks)
      (map (λ b. Read b 1) (range_with_len l.block (l.initial.device.parts.common.slots.blocks - l.block))) [] []
      l.initial.tally l.tally l.device.parts
      (g.D.Disk.moments l.initial.device.disk.now) (g.D.Disk.moments l.device.disk.now);
}
