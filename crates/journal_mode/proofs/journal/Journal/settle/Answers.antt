use Rattle.std.proofs.Common.{sym, subst}
use Rattle.journal_model.specs.Ring.{JournalRing}
use Rattle.replay.specs.Moves.{HasSettled}
use Rattle.replay.specs.DeclaredPlacement.{Placement}
use Rattle.journal_mode.specs.Journal.{IsJournal, PlacedRing}
use Rattle.journal_mode.specs.Standing.{StandsAs}
use Rattle.tag_store.specs.Store.{IsMarkedTags}
use Rattle.journal_mode.proofs.GivesLemmas.{told_adds}
use Rattle.journal_mode.proofs.FreeingLemmas.{freed_by, freed_is}
use Rattle.journal_mode.proofs.MovesLemmas.{left_cut, settles_as}
use Rattle.journal_mode.proofs.journal.Journal.settle.Goals as goal

pub invariant_of-self : goal.invariant_of-self
invariant_of-self g c =
    subst (λ (r : JournalRing). IsJournal r c.settle.new.self c.self.inside.overlay) (sym c.in_err-moved.ensures.err.1)
    (subst (λ (p : Placement). IsJournal c.self.inside.ring p c.self.inside.overlay) (sym c.in_err-moved.ensures.err.0) c.self.invariant)

pub returns-in_err-moved-clause-left : goal.returns-in_err-moved-clause-left
returns-in_err-moved-clause-left g c w stands =
    let view : PlacedRing = record { ring = c.self.inside.ring; placement = c.self.inside.placer } in
    let there = subst (λ (j : PlacedRing). StandsAs w j c.args.tags.now (g.D.Disk.moments c.args.disk.now)) (sym c.self.view_is) stands in
    left_cut w view c.args.tags.now w.disk there (c.settle.ensures.cuts w.disk there.placed)

pub invariant_of-self-2 : goal.invariant_of-self-2
invariant_of-self-2 g c =
    let ring = c.self.inside.ring in
    let freed = freed_by c.self.inside.placer c.settle.new.self ring c.settle.new.ring c.args.tags.now c.settle.new.tags c.in_ok-moved.moved c.args.disk.now c.settle.new.disk c.self.invariant.placement c.self.invariant.bounds c.in_ok-moved.ensures.moved in
    freed_is ring c.settle.new.ring c.self.inside.placer c.settle.new.self c.self.inside.overlay c.drop_freed.new.overlay freed.0 freed.1 c.self.invariant c.settle.ensures.placement
    c.drop_freed.ensures.capacity (c.drop_freed.ensures.kept ring freed.0 freed.1 c.oldest-oldest.ensures.oldest c.self.invariant.kept)

pub returns-clause-moved : goal.returns-clause-moved
returns-clause-moved g c =
    subst (λ (j : PlacedRing). HasSettled c.in_ok-moved.moved j.placement c.settle.new.self j.ring c.settle.new.ring c.args.tags.now c.settle.new.tags c.args.disk.now c.settle.new.disk) c.self.view_is
    c.in_ok-moved.ensures.moved

pub returns-clause-settled : goal.returns-clause-settled
returns-clause-settled g c w stands =
    let view : PlacedRing = record { ring = c.self.inside.ring; placement = c.self.inside.placer } in
    let before = g.D.Disk.moments c.args.disk.now in
    let there : StandsAs w view c.args.tags.now before = subst (λ (j : PlacedRing). StandsAs w j c.args.tags.now before) (sym c.self.view_is) stands in
    settles_as w view c.args.tags.now before c.in_ok-moved.moved c.settle.new.self c.settle.new.ring c.settle.new.tags (g.D.Disk.moments c.settle.new.disk) c.args.disk.now c.settle.new.disk
    there c.in_ok-moved.ensures.moved (c.in_ok-moved.ensures.settled w.disk there.placed)
    (told_adds (IsMarkedTags c.args.tags.now) before (g.D.Disk.moments c.settle.new.disk) c.settle.ensures.moments.tags) c.in_ok-moved.ensures.tags

pub returns-clause-left : goal.returns-clause-left
returns-clause-left g c w stands =
    let view : PlacedRing = record { ring = c.self.inside.ring; placement = c.self.inside.placer } in
    let there = subst (λ (j : PlacedRing). StandsAs w j c.args.tags.now (g.D.Disk.moments c.args.disk.now)) (sym c.self.view_is) stands in
    left_cut w view c.args.tags.now w.disk there (c.settle.ensures.cuts w.disk there.placed)
