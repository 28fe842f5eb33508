use Rattle.std.proofs.Common.{◌-◌, ◌≡◌, ◌≤◌, ℕ, length}
use Rattle.image_resizing.specs.Filled.{FillsBlocks, StandsFilling}
use Rattle.image_resizing.proofs.tagging.tag_blocks.Given as goal

abbrev pub invariant-loop-done : goal.invariant-loop-done
invariant-loop-done g l =
    let moments_of = g.D.Disk.moments in
    let sectors = (g.D.Disk.identity l.fn.disk).sectors in
    record {
      low : l.done ≤ l.count;
      tagged : (written : ℕ) → FillsBlocks sectors l.plan written 0 written l.done (moments_of l.fn.disk) (moments_of l.disk);
      stands : (written : ℕ) → StandsFilling sectors l.plan written 0 (moments_of l.fn.disk) (moments_of l.disk);
      size : length l.tags ≡ length l.fn.tags;
      identity : g.D.Disk.identity l.disk ≡ g.D.Disk.identity l.fn.disk;
      faults : g.D.Counted.faults l.disk ≡ g.D.Counted.faults l.fn.disk;
    }

abbrev pub decreases-loop-done : goal.decreases-loop-done
decreases-loop-done g l = l.count - l.done
