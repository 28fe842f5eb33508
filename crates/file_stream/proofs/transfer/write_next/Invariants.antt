use Rattle.std.proofs.Common.{◌≡◌}
use Rattle.file_stream.proofs.transfer.write_next.Given as goal

abbrev pub invariant-loop-count : goal.invariant-loop-count
invariant-loop-count g l = record {
  held : g.F.OutputFile.held l.file ≡ g.F.OutputFile.held l.fn.file;
  no_fault : g.F.OutputFile.faults l.file ≡ g.F.OutputFile.faults l.fn.file;
}

abbrev pub decreases-loop-count : goal.decreases-loop-count
decreases-loop-count g l = g.F.OutputFile.interruptions l.file
