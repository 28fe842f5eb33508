use Rattle.std.proofs.Common.{sym, subst, rules}
use Rattle.std.proofs.lemmas.Result.{IfOk-weaker}
use Rattle.journal_erasure.specs.declared.erasure.Erasure.{Erasure}
use Rattle.journal_erasure.specs.Erasing.{IsErasureOf}
use Rattle.replay.proofs.FinishingLemmas.{erasure_at, unused_left}
use Rattle.replay.proofs.emptying.empty.Goals as goal

pub returns-then-not-at-clause-left : goal.returns-then-not-at-clause-left
returns-then-not-at-clause-left g c d rest now told = unused_left d c.args.at c.args.tags.now (g.D.Disk.moments c.args.disk.now) now rest (search rules) told

pub returns-clause-left : goal.returns-clause-left
returns-clause-left g c = IfOk-weaker c.erase_journal.result _ _ (λ left is d rest.
    is d (subst (λ (x : Erasure). IsErasureOf c.args.geometry.now x d) (sym c.at_rest-erasure.ensures.told)
    (erasure_at d c.args.geometry.now c.args.at c.args.tags.now (g.D.Disk.moments c.args.disk.now) rest c.requires.scratch.geometry)) rest.placed rest.cells) c.erase_journal.ensures.left

pub returns-clause-cuts : goal.returns-clause-cuts
returns-clause-cuts g c d rest =
    c.erase_journal.ensures.cuts d (subst (λ (x : Erasure). IsErasureOf c.args.geometry.now x d) (sym c.at_rest-erasure.ensures.told)
    (erasure_at d c.args.geometry.now c.args.at c.args.tags.now (g.D.Disk.moments c.args.disk.now) rest c.requires.scratch.geometry)) rest.cells
