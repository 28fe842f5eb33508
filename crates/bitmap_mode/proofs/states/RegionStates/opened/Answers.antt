use Rattle.std.proofs.Common.{◌∙◌}
use Rattle.bitmap_mode.proofs.OpeningLemmas.{opened_counts, opened_states}
use Rattle.bitmap_mode.proofs.states.RegionStates.opened.Goals as goal

pub invariant_of-result : goal.invariant_of-result
invariant_of-result c =
    opened_states c.args.fields.now c.args.geometry c.args.bits c.in_ok-awaiting.awaiting c.in_ok-fresh.fresh c.in_ok-awaiting.ensures.opening c.in_ok-fresh.ensures.none c.in_ok-to_clean.to_clean
    c.requires.fits c.requires.bits (c.in_ok-fresh.ensures.size ∙ c.regions.ensures) c.in_ok-to_clean.ensures

pub returns-clause-counts : goal.returns-clause-counts
returns-clause-counts c =
    opened_counts c.args.fields.now c.args.geometry c.args.bits c.in_ok-awaiting.awaiting c.in_ok-fresh.fresh c.in_ok-awaiting.ensures.opening c.in_ok-fresh.ensures.none
