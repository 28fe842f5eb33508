use Rattle.std.proofs.Common.{◌≡◌}
use Rattle.file_stream.proofs.transfer.read_next.Given as goal

abbrev pub invariant-loop-count : goal.invariant-loop-count
invariant-loop-count g l = record {
  left : g.F.InputFile.left l.file ≡ g.F.InputFile.left l.fn.file;
  name : g.F.InputFile.name l.file ≡ g.F.InputFile.name l.fn.file;
  no_fault : g.F.InputFile.faults l.file ≡ g.F.InputFile.faults l.fn.file;
}

abbrev pub decreases-loop-count : goal.decreases-loop-count
decreases-loop-count g l = g.F.InputFile.interruptions l.file
