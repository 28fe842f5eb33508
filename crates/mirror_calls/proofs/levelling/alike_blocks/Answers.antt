-- One block more is alike.
use Rattle.std.proofs.Common.{rules, ◌≡◌, arith}
use Rattle.mirror_calls.specs.Leg.{bytes_at}
use Rattle.mirror_calls.proofs.AlikeLemmas.{AreAlike-none, AreAlike-more}
use Rattle.mirror_calls.proofs.levelling.alike_blocks.Goals as goal

pub loop-k-init : goal.loop-k-init
loop-k-init c = record { at = omega arith; low = omega arith; alike = AreAlike-none c.args.size c.args.a.now c.args.b.now }

pub loop-k-preserved : goal.loop-k-preserved
loop-k-preserved c =
    let i = c.loop-k.invariant in
    let here : bytes_at c.args.size c.loop-k.k c.args.a.now ≡ bytes_at c.args.size c.loop-k.k c.args.b.now = search rules in
    record {
      at = omega (arith, i.at);
      low = omega (arith, c.loop-k-test.true);
      alike = AreAlike-more c.args.size c.loop-k.k c.args.a.now c.args.b.now i.alike here;
    }
