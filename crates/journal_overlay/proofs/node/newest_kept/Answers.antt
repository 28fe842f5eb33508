use Rattle.std.proofs.Common.{◌≤◌, ◌<◌, ℕ, length, Option, sym, subst, arith}
use Rattle.journal_overlay.specs.Nodes.{behind, IsBack, IsHere, kept_of}
use Rattle.journal_overlay.proofs.NodesLemmas.{IsBack-older, IsHere-kept}
use Rattle.journal_overlay.proofs.node.newest_kept.Goals as goal

pub loop-at-preserved : goal.loop-at-preserved
loop-at-preserved c =
    let nodes = c.args.nodes.now in let j = c.in-Some.k in
    let there : j < length nodes = subst (λ (o : Option ℕ). behind o ≤ length nodes) c.in-Some.is c.loop-at.invariant.there in
    record {
      there = omega (arith, there, (c.requires.linked.older j there).before);
      back = λ block k back. IsBack-older nodes block j k c.requires.linked there c.if-nodes-k.false
          (subst (λ (o : Option ℕ). IsBack block o k nodes) c.in-Some.is (c.loop-at.invariant.back block k back));
    }

pub returns-then-nodes-k : goal.returns-then-nodes-k
returns-then-nodes-k c = λ block k back.
    let here = subst (λ (o : Option ℕ). IsBack block o k c.args.nodes.now) c.in-Some.is (c.loop-at.invariant.back block k back) in
    (here, IsHere-kept c.args.nodes.now block c.in-Some.k k c.if-nodes-k.true here)

pub returns-in_default : goal.returns-in_default
returns-in_default c = λ block k back. (c.loop-at.invariant.back block k back, subst (λ (o : Option ℕ). IsHere (kept_of block) o c.args.nodes.now) (sym c.in_default.is) tt)
