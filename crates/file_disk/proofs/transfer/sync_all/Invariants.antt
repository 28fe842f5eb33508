use Rattle.std.proofs.Common.{◌≡◌}
use Rattle.file_disk.proofs.transfer.sync_all.Given as goal

abbrev pub invariant-loop : goal.invariant-loop
invariant-loop g l = record {
  identity : g.F.SectorFile.identity l.file ≡ g.F.SectorFile.identity l.fn.file;
  access : g.F.SectorFile.access l.file ≡ g.F.SectorFile.access l.fn.file;
  kept : g.F.SectorFile.moments l.file ≡ g.F.SectorFile.moments l.fn.file;
  no_fault : g.F.SectorFile.faults l.file ≡ g.F.SectorFile.faults l.fn.file;
}

abbrev pub decreases-loop : goal.decreases-loop
decreases-loop g l = g.F.SectorFile.interruptions l.file
