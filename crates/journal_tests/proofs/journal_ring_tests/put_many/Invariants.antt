use Rattle.std.proofs.Common.{◌≡◌}
use Rattle.journal_tests.proofs.journal_ring_tests.put_many.Given as goal

abbrev pub invariant-loop-k : goal.invariant-loop-k
invariant-loop-k l = l.ring.geometry ≡ l.fn.ring.geometry
