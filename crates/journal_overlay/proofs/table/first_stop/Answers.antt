use Rattle.std.proofs.Common.{length, sym, ◌∙◌, arith}
use Rattle.std.proofs.lemmas.List.Sums.{position_or_len_is}
use Rattle.journal_overlay.specs.Slots.{stops}
use Rattle.journal_overlay.specs.declared.table.Slot.TheVariants.{Free}
use Rattle.journal_overlay.proofs.table.first_stop.Goals as goal

pub returns-then-stops-clause-first : goal.returns-then-stops-clause-first
returns-then-stops-clause-first c =
    sym (position_or_len_is (stops c.args.key) c.args.slots.now c.loop-n.n Free (omega (arith, c.loop-n-test.true)) c.loop-n.invariant (λ less. sym c.stops.ensures ∙ c.if-stops.true))

pub returns-clause-first : goal.returns-clause-first
returns-clause-first c =
    sym (position_or_len_is (stops c.args.key) c.args.slots.now (length c.args.slots.now) Free (omega arith)
    (λ k less. c.loop-n.invariant k (omega (arith, less, c.loop-n-test.false))) (λ less. absurd (omega (arith, less))))
