use Rattle.std.proofs.Common.{◌≡◌}
use Rattle.ring_bench.proofs.laps.fill.Given as goal

abbrev pub invariant-loop-number : goal.invariant-loop-number
invariant-loop-number l = l.ring.geometry ≡ l.fn.ring.geometry
