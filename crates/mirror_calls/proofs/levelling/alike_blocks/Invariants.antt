-- The blocks before this one are alike.
use Rattle.std.proofs.Common.{◌≡◌, ◌*◌, ◌≤◌}
use Rattle.mirror_calls.specs.Leg.{AreAlike}
use Rattle.mirror_calls.proofs.levelling.alike_blocks.Given as goal

abbrev pub invariant-loop-k : goal.invariant-loop-k
invariant-loop-k l = record {
  at : l.at ≡ l.k * l.size;
  low : l.k ≤ l.most;
  alike : AreAlike l.size l.k l.a l.b;
}
