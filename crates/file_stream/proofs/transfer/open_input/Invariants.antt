use Rattle.std.proofs.Common.{◌≡◌, ℕ, List}
use Rattle.file_stream.proofs.transfer.open_input.Given as goal

abbrev pub invariant-loop-file : goal.invariant-loop-file
invariant-loop-file g l = record {
  named : (other : List ℕ) → g.O.InputFolder.named l.folder other ≡ g.O.InputFolder.named l.fn.folder other;
  no_fault : g.O.InputFolder.faults l.folder ≡ g.O.InputFolder.faults l.fn.folder;
}

abbrev pub decreases-loop-file : goal.decreases-loop-file
decreases-loop-file g l = g.O.InputFolder.interruptions l.folder
