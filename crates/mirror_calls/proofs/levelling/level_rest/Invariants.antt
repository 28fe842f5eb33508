-- The blocks before this one are levelled, and the buffers are one block long.
use Rattle.std.proofs.Common.{◌≡◌, ◌+◌, ◌-◌, ◌*◌, ◌≤◌, false, length}
use Rattle.mirror_calls.specs.State.{AreReady}
use Rattle.mirror_calls.proofs.LoopLemmas.{AreLevelling}
use Rattle.mirror_calls.proofs.levelling.level_rest.Given as goal

abbrev pub invariant-loop-k : goal.invariant-loop-k
invariant-loop-k g l = record {
  whole : l.mirror.broken ≡ false;
  ready : AreReady l.mirror.broken (g.A.Leg.ready l.mirror.a) (g.B.Leg.ready l.mirror.b) (g.A.Leg.blocks l.mirror.a) (g.A.Leg.block_size l.mirror.a) (g.B.Leg.blocks l.mirror.b) (g.B.Leg.block_size l.mirror.b);
  there : l.first + l.count ≤ g.A.Leg.blocks l.mirror.a;
  buffer_ : length l.buffer ≡ g.A.Leg.block_size l.mirror.a;
  other_ : length l.other ≡ g.A.Leg.block_size l.mirror.a;
  few : l.written ≤ l.k;
  low : l.k ≤ l.count;
  levelling : AreLevelling g.A.Leg.may_be_left g.B.Leg.may_be_left (record { a_stands = g.A.Leg.stands_for l.initial.mirror.a; b_stands = g.B.Leg.stands_for l.initial.mirror.b; a_moments = g.A.Leg.moments l.initial.mirror.a; b_moments = g.B.Leg.moments l.initial.mirror.b }) (record { a_stands = g.A.Leg.stands_for l.mirror.a; b_stands = g.B.Leg.stands_for l.mirror.b; a_moments = g.A.Leg.moments l.mirror.a; b_moments = g.B.Leg.moments l.mirror.b })
      l.first l.count (l.first + l.k) (l.count - l.k) l.written;
  first_asked : g.A.Leg.submitted l.mirror.a ≤ g.A.Leg.submitted l.initial.mirror.a + 2 * l.k;
  second_asked : g.B.Leg.submitted l.mirror.b ≤ g.B.Leg.submitted l.initial.mirror.b + 2 * l.k;
  first_faults : g.A.Leg.faults l.mirror.a ≡ g.A.Leg.faults l.initial.mirror.a;
  second_faults : g.B.Leg.faults l.mirror.b ≡ g.B.Leg.faults l.initial.mirror.b;
  same_blocks : g.A.Leg.blocks l.mirror.a ≡ g.A.Leg.blocks l.initial.mirror.a;
  same_size : g.A.Leg.block_size l.mirror.a ≡ g.A.Leg.block_size l.initial.mirror.a;
  same_name : g.A.Leg.name l.mirror.a ≡ g.A.Leg.name l.initial.mirror.a;
  second_blocks : g.B.Leg.blocks l.mirror.b ≡ g.B.Leg.blocks l.initial.mirror.b;
  second_size : g.B.Leg.block_size l.mirror.b ≡ g.B.Leg.block_size l.initial.mirror.b;
  second_name : g.B.Leg.name l.mirror.b ≡ g.B.Leg.name l.initial.mirror.b;
}
