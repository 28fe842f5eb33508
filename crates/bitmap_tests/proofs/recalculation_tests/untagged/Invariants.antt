use Rattle.std.proofs.Common.{◌≡◌}
use Rattle.tag_store.specs.Store.{IsStore}
use Rattle.bitmap_tests.proofs.recalculation_tests.untagged.Given as goal

abbrev pub invariant-loop-block : goal.invariant-loop-block
invariant-loop-block g l = record {
  store : IsStore l.tags (g.D.Disk.identity l.disk) (g.D.Disk.moments l.disk);
  same : l.tags.geometry ≡ l.geometry;
  identity : g.D.Disk.identity l.disk ≡ g.D.Disk.identity l.fn.disk;
}
