use Rattle.std.proofs.Common.{◌≡◌}
use Rattle.ring_bench.proofs.laps.free_all.Given as goal

abbrev pub invariant-loop-freed : goal.invariant-loop-freed
invariant-loop-freed l = l.ring.geometry ≡ l.fn.ring.geometry
