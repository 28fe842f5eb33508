use Rattle.std.proofs.Common.{◌≡◌, ℕ, ◌+◌, ◌*◌, ◌-◌, ◌≤◌, false, List, length, Some}
use Rattle.std.specs.Option.{IsSomeAnd}
use Rattle.mirror_model.specs.ScriptRun.{IsMirrorRunOf, MirrorRun}
use Rattle.mirror_calls.specs.Calls.{StaysReady}
use Rattle.script_lines.specs.Taken.{read_by}
use Rattle.mirror_run.specs.Running.{IsAt}
use Rattle.mirror_run.specs.Standing.{IsStanding, Standing, cuts_by, format_at, shown_by}
use Rattle.mirror_run.proofs.running.run_script.Given as goal

abbrev pub invariant-loop-mirror : goal.invariant-loop-mirror
invariant-loop-mirror g l = record {
  stays : StaysReady g.A.Leg.ready g.A.Leg.blocks g.A.Leg.block_size g.A.Leg.name g.B.Leg.ready g.B.Leg.blocks
      g.B.Leg.block_size g.B.Leg.name l.fn.mirror.a l.fn.mirror.b l.mirror.broken l.mirror.a l.mirror.b;
  works : l.mirror.broken ≡ false;
  asked : g.A.Leg.submitted l.mirror.a
      ≤ g.A.Leg.submitted l.fn.mirror.a + (3 * g.A.Leg.blocks l.fn.mirror.a + 1) + 2049 * l.reader.taken;
  second_asked : g.B.Leg.submitted l.mirror.b
      ≤ g.B.Leg.submitted l.fn.mirror.b + (3 * g.A.Leg.blocks l.fn.mirror.a + 1) + 2049 * l.reader.taken;
  number : l.number ≤ l.reader.taken + 1;
  taken : l.reader.taken ≤ 16777216;
  read : (left : List ℕ) → g.S.Source.left l.fn.script ≡ Some left
      → IsSomeAnd (g.S.Source.left l.script) (λ more. length left ≡ length more + read_by l.reader);
  disk_same : g.A.Leg.faults l.mirror.a ≡ g.A.Leg.faults l.fn.mirror.a;
  second_same : g.B.Leg.faults l.mirror.b ≡ g.B.Leg.faults l.fn.mirror.b;
  script_same : g.S.Counted.faults l.script ≡ g.S.Counted.faults l.fn.script;
  sink_same : g.O.Counted.faults l.out ≡ g.O.Counted.faults l.fn.out;
  way : (w : Standing) (left : List ℕ) (run : MirrorRun)
      → IsStanding w (shown_by g.A.Leg.stands_for g.B.Leg.stands_for g.A.Leg.moments g.B.Leg.moments
      l.fn.mirror.a l.fn.mirror.b)
      → g.S.Source.left l.fn.script ≡ Some left → IsMirrorRunOf (format_at w) w.m left run
      → IsSomeAnd (g.S.Source.left l.script) (λ later. IsAt (cuts_by g.A.Leg.may_be_left g.B.Leg.may_be_left) w run left
      (shown_by g.A.Leg.stands_for g.B.Leg.stands_for g.A.Leg.moments g.B.Leg.moments
      l.fn.mirror.a l.fn.mirror.b).moments (g.O.Sink.held l.fn.out) l.number l.found l.reader later
      (shown_by g.A.Leg.stands_for g.B.Leg.stands_for g.A.Leg.moments g.B.Leg.moments l.mirror.a l.mirror.b)
      (g.O.Sink.held l.out));
}

abbrev pub decreases-loop-mirror : goal.decreases-loop-mirror
decreases-loop-mirror g l = 16777216 - l.reader.taken
