use Rattle.std.proofs.Common.{◌≡◌, filter_map}
use Rattle.std.specs.List.{range_with_len}
use Rattle.disk_model.specs.Disk.{last_image}
use Rattle.disk_model.specs.Moments.{HasNow}
use Rattle.image_check.specs.Checked.{IsCheckOf, IsSameCheck}
use Rattle.image_check.proofs.CheckedLemmas.{judged_in}
use Rattle.image_check.proofs.report.list_bad.Given as goal

-- The bad blocks before this one are listed, and all that is kept is of the disk, which is as it was.
abbrev pub invariant-loop-block : goal.invariant-loop-block
invariant-loop-block g l =
    let sectors = (g.D.Disk.identity l.fn.disk).sectors in
    record {
      image : IsCheckOf l.image (g.D.Disk.identity l.disk) (g.D.Disk.moments l.disk);
      same : IsSameCheck l.fn.image l.image;
      identity : g.D.Disk.identity l.disk ≡ g.D.Disk.identity l.fn.disk;
      moments : g.D.Disk.moments l.disk ≡ g.D.Disk.moments l.fn.disk;
      faults : g.D.Counted.faults l.disk ≡ g.D.Counted.faults l.fn.disk;
      lists : HasNow (λ c. l.list.items ≡ filter_map (judged_in l.fn.image sectors (last_image c)) (range_with_len 0 l.block)) (g.D.Disk.moments l.fn.disk);
    }
