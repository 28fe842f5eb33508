use Rattle.std.proofs.Common.{◌≡◌, true, sym, ◌∙◌, ap, subst}
use Rattle.recalculation.specs.Awaiting.{awaiting_of}
use Rattle.tag_store.specs.Store.{given_tags}
use Rattle.bitmap_mode.specs.States.{States}
use Rattle.bitmap_mode.proofs.RecalculationLemmas.{every_added, every_taken}
use Rattle.bitmap_mode.proofs.states.RegionStates.take.Goals as goal

pub returns-in_err-recalc_region-clause-moments : goal.returns-in_err-recalc_region-clause-moments
returns-in_err-recalc_region-clause-moments g c =
    let tags = given_tags c.args.tags.now in
    let there = c.self.invariant.awaiting_geometry ∙ ap (λ (s : States). s.geometry) c.self.view_is in
    let waits = subst (λ (s : States). awaiting_of s.awaiting c.args.region ≡ true) (sym c.self.view_is) c.requires.awaits in
    every_added c.args.maker.now c.self.inside.awaiting c.args.self.now.geometry c.args.region tags there c.self.invariant.awaiting_first waits c.recalc_region.ensures.moments

pub returns-clause-moments : goal.returns-clause-moments
returns-clause-moments g c =
    let tags = given_tags c.args.tags.now in
    let there = c.self.invariant.awaiting_geometry ∙ ap (λ (s : States). s.geometry) c.self.view_is in
    let waits = subst (λ (s : States). awaiting_of s.awaiting c.args.region ≡ true) (sym c.self.view_is) c.requires.awaits in
    every_added c.args.maker.now c.self.inside.awaiting c.args.self.now.geometry c.args.region tags there c.self.invariant.awaiting_first waits c.recalc_region.ensures.moments

pub returns-clause-taken : goal.returns-clause-taken
returns-clause-taken g c =
    let tags = given_tags c.args.tags.now in
    let there = c.self.invariant.awaiting_geometry ∙ ap (λ (s : States). s.geometry) c.self.view_is in
    let waits = subst (λ (s : States). awaiting_of s.awaiting c.args.region ≡ true) (sym c.self.view_is) c.requires.awaits in
    every_taken c.args.maker.now c.self.inside.awaiting c.args.self.now.geometry c.args.region tags there c.self.invariant.awaiting_first waits (given_tags c.recalc_region.new.tags) c.in_ok-recalc_region.ensures.taken
