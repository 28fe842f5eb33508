use Rattle.std.proofs.Common.{◌≡◌}
use Rattle.bitmap_tests.proofs.recalculation_tests.bits_on.Given as goal

abbrev pub invariant-loop-region : goal.invariant-loop-region
invariant-loop-region g l = record {
  geometry : l.bits.geometry ≡ l.geometry;
  identity : g.D.Disk.identity l.disk ≡ g.D.Disk.identity l.fn.disk;
}
