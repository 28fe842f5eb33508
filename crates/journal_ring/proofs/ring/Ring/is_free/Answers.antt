use Rattle.std.proofs.Common.{◌+◌, ◌-◌, ℕ, leb, sym, ap, ◌∙◌}
use Rattle.journal_model.specs.Ring.{JournalRing}
use Rattle.journal_ring.specs.Sections.{wrap}
use Rattle.journal_ring.specs.Places.{is_free}
use Rattle.journal_ring.proofs.PlacesLemmas.{free-is}
use Rattle.journal_ring.proofs.ring.Ring.is_free.Goals as goal

pub returns : goal.returns
returns c =
    let m = c.self.inside.marks in
    ap (leb (m.committed + m.opened)) (c.position.ensures ∙ ap (λ (n : ℕ). wrap n (c.args.section + (n - m.first))) c.sections-sections.ensures)
    ∙ sym (free-is c.self.inside.pool.geometry c.self.inside.pool.bytes c.self.inside.counts.items m c.self.invariant c.args.section)
    ∙ ap (λ (ring : JournalRing). is_free ring c.args.section) c.self.view_is
