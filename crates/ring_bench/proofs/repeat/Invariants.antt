use Rattle.std.proofs.Common.{◌≡◌}
use Rattle.ring_bench.proofs.repeat.Given as goal

abbrev pub invariant-loop-lap : goal.invariant-loop-lap
invariant-loop-lap g l = record {
  geometry : l.ring.geometry ≡ l.fn.ring.geometry;
  identity : g.D.Disk.identity l.disk ≡ g.D.Disk.identity l.fn.disk;
}
