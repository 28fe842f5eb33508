use Rattle.std.proofs.Common.{◌≡◌, true, refl, sym, ◌∙◌, ap}
use Rattle.bitmap_laws.proofs.CallLemmas.{kept_stands_law, still_law}
use Rattle.recalculation.specs.Awaiting.{awaiting_of}
use Rattle.recalculation.proofs.RestLemmas.{KeepsRest-still}
use Rattle.tag_store.specs.Store.{given_tags}
use Rattle.bitmap_mode.specs.States.{States}
use Rattle.bitmap_mode.proofs.RecalculationLemmas.{added_where, is_taken, is_taken_first, take_through}
use Rattle.bitmap_mode.proofs.StandingLemmas.{on_ok_both}
use Rattle.bitmap_mode.proofs.states.RegionStates.take_to_read.Goals as goal

pub returns-then-awaits-clause-stands : goal.returns-then-awaits-clause-stands
returns-then-awaits-clause-stands g c =
    let s = c.args.self.now in
    let waits : awaiting_of s.awaiting c.args.region ≡ true = ap (λ (x : States). awaiting_of x.awaiting c.args.region) (sym c.self.view_is) ∙ sym c.awaits.ensures ∙ c.if-awaits.true in
    on_ok_both c.take.result (λ counts taken d marked stands.
    is_taken_first d marked c.args.maker.now s c.args.tags.now stands c.requires.fits.same c.args.region c.requires.region waits c.take.new.self c.take.new.tags
    (is_taken d marked c.args.maker.now s c.args.tags.now stands c.requires.fits.same c.args.region c.requires.region waits c.take.new.self c.take.new.tags c.take.ensures.stays.tags counts taken))
    c.take.ensures.counts c.take.ensures.taken

pub returns-then-awaits-clause-through : goal.returns-then-awaits-clause-through
returns-then-awaits-clause-through g c d marked stands =
    let s = c.args.self.now in
    let waits : awaiting_of s.awaiting c.args.region ≡ true = ap (λ (x : States). awaiting_of x.awaiting c.args.region) (sym c.self.view_is) ∙ sym c.awaits.ensures ∙ c.if-awaits.true in
    take_through d marked c.args.maker.now s c.args.tags.now stands c.requires.fits.same c.args.region c.requires.region waits c.take.ensures.moments

pub returns-then-awaits-clause-moments : goal.returns-then-awaits-clause-moments
returns-then-awaits-clause-moments g c =
    let s = c.args.self.now in
    let waits : awaiting_of s.awaiting c.args.region ≡ true = ap (λ (x : States). awaiting_of x.awaiting c.args.region) (sym c.self.view_is) ∙ sym c.awaits.ensures ∙ c.if-awaits.true in
    added_where c.args.maker.now s c.args.region c.args.tags.now waits c.take.ensures.moments

pub returns-clause-through : goal.returns-clause-through
returns-clause-through g c d marked stands =
    still_law d marked (g.D.Disk.moments c.args.disk.now) (g.D.Disk.moments c.args.disk.now) refl
    (kept_stands_law d marked (given_tags c.args.tags.now) (g.D.Disk.moments c.args.disk.now) stands.stands.now)

pub returns-clause-rest : goal.returns-clause-rest
returns-clause-rest g c = KeepsRest-still c.args.tags.now (g.D.Disk.moments c.args.disk.now) (g.D.Disk.moments c.args.disk.now) refl
