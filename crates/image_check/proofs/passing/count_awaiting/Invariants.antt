use Rattle.std.proofs.Common.{◌≡◌, ◌≤◌}
use Rattle.disk_model.specs.Disk.{last_image}
use Rattle.disk_model.specs.Moments.{HasNow}
use Rattle.sector_window.specs.Window.{HasRoom}
use Rattle.check_model.specs.Report.{awaiting_below}
use Rattle.image_check.proofs.passing.count_awaiting.Given as goal

-- Those of the blocks before this one are counted, and the disk is as it was.
abbrev pub invariant-loop-block : goal.invariant-loop-block
invariant-loop-block g l = record {
  bits : HasRoom 1 l.bits (g.D.Disk.moments l.disk);
  identity : g.D.Disk.identity l.disk ≡ g.D.Disk.identity l.fn.disk;
  moments : g.D.Disk.moments l.disk ≡ g.D.Disk.moments l.fn.disk;
  faults : g.D.Counted.faults l.disk ≡ g.D.Counted.faults l.fn.disk;
  few : l.count ≤ l.block;
  counted : HasNow (λ c. l.count ≡ awaiting_below l.fn.format.fields l.fn.format.geometry (last_image c) l.block) (g.D.Disk.moments l.fn.disk);
}
