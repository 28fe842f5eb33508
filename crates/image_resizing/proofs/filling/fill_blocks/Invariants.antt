use Rattle.std.proofs.Common.{◌-◌, ◌≡◌, ◌≤◌}
use Rattle.image_resizing.specs.Filled.{FillsBlocks, StandsFilling}
use Rattle.image_resizing.proofs.filling.fill_blocks.Given as goal

abbrev pub invariant-loop-done : goal.invariant-loop-done
invariant-loop-done g l =
    let moments_of = g.D.Disk.moments in
    let sectors = (g.D.Disk.identity l.fn.disk).sectors in
    record {
      low : l.done ≤ l.count;
      filled : FillsBlocks sectors l.plan 0 0 l.done 0 (moments_of l.fn.disk) (moments_of l.disk);
      stands : StandsFilling sectors l.plan 0 0 (moments_of l.fn.disk) (moments_of l.disk);
      identity : g.D.Disk.identity l.disk ≡ g.D.Disk.identity l.fn.disk;
      faults : g.D.Counted.faults l.disk ≡ g.D.Counted.faults l.fn.disk;
    }

abbrev pub decreases-loop-done : goal.decreases-loop-done
decreases-loop-done g l = l.count - l.done
