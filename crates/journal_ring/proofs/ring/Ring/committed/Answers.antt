use Rattle.std.proofs.Common.{◌+◌, ◌-◌, ℕ, ltb, sym, ap, ◌∙◌}
use Rattle.journal_model.specs.Ring.{JournalRing}
use Rattle.journal_ring.specs.Sections.{wrap}
use Rattle.journal_ring.specs.Places.{is_committed}
use Rattle.journal_ring.proofs.PlacesLemmas.{committed-is}
use Rattle.journal_ring.proofs.ring.Ring.committed.Goals as goal

pub returns : goal.returns
returns c =
    let m = c.self.inside.marks in
    ap (λ (n : ℕ). ltb n m.committed) (c.position.ensures ∙ ap (λ (n : ℕ). wrap n (c.args.place.section + (n - m.first))) c.sections-sections.ensures)
    ∙ sym (committed-is c.self.inside.pool.geometry c.self.inside.pool.bytes c.self.inside.counts.items m c.self.invariant c.args.place.section)
    ∙ ap (λ (ring : JournalRing). is_committed ring c.args.place.section) c.self.view_is
