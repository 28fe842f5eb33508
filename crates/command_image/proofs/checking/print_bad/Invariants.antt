use Rattle.std.proofs.Common.{◌≡◌}
use Rattle.image_check.specs.Checked.{IsCheckOf, IsSameCheck}
use Rattle.command_image.proofs.CheckingLemmas.{IsListedTo}
use Rattle.command_image.proofs.checking.print_bad.Given as goal

-- The bad blocks before this one are printed, and all that is kept is of the disk, which is as it was.
abbrev pub invariant-loop-block : goal.invariant-loop-block
invariant-loop-block g l = record {
  image : IsCheckOf l.image (g.D.Disk.identity l.disk) (g.D.Disk.moments l.disk);
  same : IsSameCheck l.fn.image l.image;
  identity : g.D.Disk.identity l.disk ≡ g.D.Disk.identity l.fn.disk;
  moments : g.D.Disk.moments l.disk ≡ g.D.Disk.moments l.fn.disk;
  disk_faults : g.D.Counted.faults l.disk ≡ g.D.Counted.faults l.fn.disk;
  sink_faults : g.O.Counted.faults l.out ≡ g.O.Counted.faults l.fn.out;
  listed : IsListedTo l.fn.image (g.D.Disk.identity l.fn.disk).sectors (g.D.Disk.moments l.fn.disk) l.block l.bad (g.O.Sink.held l.fn.out) (g.O.Sink.held l.out);
}
