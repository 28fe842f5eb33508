use Rattle.std.proofs.Common.{arith, sym, ◌∙◌}
use Rattle.commit_id.proofs.IdsLemmas.{number_of-found, number_of-none}
use Rattle.commit_id.proofs.ids.number_of.Goals as goal

pub returns-then-id-found-clause-number : goal.returns-then-id-found-clause-number
returns-then-id-found-clause-number c =
    number_of-found c.args.section c.args.sector c.loop-number.number c.args.found c.requires.section c.requires.sector c.loop-number-test.true
    (sym c.id.ensures.id ∙ c.if-id-found.true)

pub returns-clause-number : goal.returns-clause-number
returns-clause-number c =
    number_of-none c.args.section c.args.sector c.args.found (λ k low. c.loop-number.invariant k (omega arith))
