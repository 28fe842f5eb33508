use Rattle.std.proofs.Common.{◌≡◌}
use Rattle.tag_store.specs.Store.{IsStore}
use Rattle.tag_tests.proofs.direct_mode_tests.reads_two_among_zeros.Given as goal

abbrev pub invariant-loop-block : goal.invariant-loop-block
invariant-loop-block g l = record {
  store : IsStore l.tags (g.D.Disk.identity l.disk) (g.D.Disk.moments l.disk);
  geometry : l.tags.geometry ≡ l.fn.tags.geometry;
  identity : g.D.Disk.identity l.disk ≡ g.D.Disk.identity l.fn.disk;
}
