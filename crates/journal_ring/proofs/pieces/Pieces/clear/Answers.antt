use Rattle.std.proofs.Common.{◌<◌, arith, subst, sym}
use Rattle.journal_ring.specs.Runs.{Sections}
use Rattle.journal_ring.proofs.RingLemmas.{sections_few}
use Rattle.journal_ring.proofs.pieces.Pieces.clear.Goals as goal

pub clear_section-requires-clause-section : goal.clear_section-requires-clause-section
clear_section-requires-clause-section c =
    let few = sections_few c.self.inside.geometry c.self.invariant.geometry in
    let low = subst (λ (x : Sections). c.args.i < x.geometry.sections) (sym c.self.view_is) c.requires.section in
    omega (arith, few, low)
