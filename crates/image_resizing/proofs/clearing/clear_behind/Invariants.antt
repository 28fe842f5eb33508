use Rattle.std.proofs.Common.{◌-◌, ◌≡◌, ◌≤◌, ◌+◌}
use Rattle.image_resizing.specs.Cleared.{ClearsSectors, StandsClearing, bits_begin, bits_end}
use Rattle.image_resizing.proofs.clearing.clear_behind.Given as goal

abbrev pub invariant-loop-next : goal.invariant-loop-next
invariant-loop-next g l =
    let moments_of = g.D.Disk.moments in
    let sectors = (g.D.Disk.identity l.fn.disk).sectors in
    record {
      behind : bits_begin l.plan + 1 ≤ l.next;
      low : l.next ≤ bits_end l.plan;
      cleared : ClearsSectors sectors l.plan (bits_begin l.plan + 1) l.next (moments_of l.fn.disk) (moments_of l.disk);
      stands : StandsClearing sectors l.plan (bits_begin l.plan + 1) (moments_of l.fn.disk) (moments_of l.disk);
      identity : g.D.Disk.identity l.disk ≡ g.D.Disk.identity l.fn.disk;
      faults : g.D.Counted.faults l.disk ≡ g.D.Counted.faults l.fn.disk;
    }

abbrev pub decreases-loop-next : goal.decreases-loop-next
decreases-loop-next g l = l.end - l.next
