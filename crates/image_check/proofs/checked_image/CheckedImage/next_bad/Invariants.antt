use Rattle.std.proofs.Common.{◌≡◌}
use Rattle.disk_model.specs.Disk.{last_image}
use Rattle.disk_model.specs.Moments.{HasNow}
use Rattle.image_check.specs.Checked.{IsCheckOf, IsSameCheck}
use Rattle.image_check.proofs.CheckedLemmas.{first_in}
use Rattle.image_check.proofs.checked_image.CheckedImage.next_bad.Given as goal

-- No block before this one is bad, and all that is kept is of the disk, which is as it was.
abbrev pub invariant-loop-block : goal.invariant-loop-block
invariant-loop-block g l =
    let sectors = (g.D.Disk.identity l.fn.disk).sectors in
    record {
      image : IsCheckOf l.self (g.D.Disk.identity l.disk) (g.D.Disk.moments l.disk);
      same : IsSameCheck l.fn.self l.self;
      identity : g.D.Disk.identity l.disk ≡ g.D.Disk.identity l.fn.disk;
      moments : g.D.Disk.moments l.disk ≡ g.D.Disk.moments l.fn.disk;
      faults : g.D.Counted.faults l.disk ≡ g.D.Counted.faults l.fn.disk;
      none : HasNow (λ c. first_in l.fn.self sectors (last_image c) l.fn.from ≡ first_in l.fn.self sectors (last_image c) l.block) (g.D.Disk.moments l.fn.disk);
    }
