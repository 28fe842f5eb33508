use Rattle.std.proofs.Common.{◌<◌, length, arith, sym, ap, subst, ◌∙◌}
use Rattle.std.proofs.lemmas.List.{get_or_default}
use Rattle.journal_model.specs.Ring.{JournalRing}
use Rattle.journal_ring.specs.Places.{entries_at}
use Rattle.journal_ring.proofs.PlacesLemmas.{entries-count}
use Rattle.journal_ring.proofs.ring.Ring.entries_in.Goals as goal

pub returns : goal.returns
returns c =
    let counts = c.self.inside.counts.items in
    let low = subst (λ (ring : JournalRing). c.args.section < ring.geometry.sections) (sym c.self.view_is) c.requires.section in
    let long = c.self.invariant.counts_are in
    c.index.ensures ∙ get_or_default counts c.args.section c.index.result.now 0 (omega arith)
    ∙ entries-count c.self.inside.pool.geometry c.self.inside.pool.bytes counts c.self.inside.marks c.self.invariant c.args.section low
    ∙ ap (λ (ring : JournalRing). length (entries_at ring c.args.section)) c.self.view_is
