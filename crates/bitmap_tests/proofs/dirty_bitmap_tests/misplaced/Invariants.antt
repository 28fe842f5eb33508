use Rattle.std.proofs.Common.{◌≡◌}
use Rattle.bitmap_tests.proofs.dirty_bitmap_tests.misplaced.Given as goal

abbrev pub invariant-loop-region : goal.invariant-loop-region
invariant-loop-region g l = record {
  geometry : l.bits.geometry ≡ l.fn.bits.geometry;
  identity : g.D.Disk.identity l.disk ≡ g.D.Disk.identity l.fn.disk;
}
