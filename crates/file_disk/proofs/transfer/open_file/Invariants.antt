use Rattle.std.proofs.Common.{◌≡◌, ℕ, List}
use Rattle.file_disk.proofs.transfer.open_file.Given as goal

abbrev pub invariant-loop-file : goal.invariant-loop-file
invariant-loop-file g l = record {
  named : (other : List ℕ) → g.O.Folder.named l.folder other ≡ g.O.Folder.named l.fn.folder other;
  no_fault : g.O.Folder.faults l.folder ≡ g.O.Folder.faults l.fn.folder;
}

abbrev pub decreases-loop-file : goal.decreases-loop-file
decreases-loop-file g l = g.O.Folder.interruptions l.folder
