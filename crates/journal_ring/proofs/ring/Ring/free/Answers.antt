use Rattle.std.proofs.Common.{◌≡◌, ◌+◌, ◌-◌, ◌≤◌, ℕ, length, set, arith, sym, ap, subst, ◌∙◌}
use Rattle.journal_model.specs.Ring.{JournalRing}
use Rattle.journal_ring.specs.Sections.{wrap}
use Rattle.journal_ring.specs.Ring.{view_of, IsRing}
use Rattle.journal_ring.specs.Places.{oldest_at, with_free}
use Rattle.journal_ring.proofs.PlacesLemmas.{IsRing-freed, view_of-freed, oldest_at-is, committed_long}
use Rattle.journal_ring.proofs.ring.Ring.free.Goals as goal

pub invariant_of-self : goal.invariant_of-self
invariant_of-self c =
    let g = c.self.inside.pool.geometry in
    let pool = c.self.inside.pool.bytes in
    let counts = c.self.inside.counts.items in
    let m = c.self.inside.marks in
    let is = c.self.invariant in
    let long = subst (λ (ring : JournalRing). 1 ≤ length ring.committed) (sym c.self.view_is) c.requires.committed in
    let some : 1 ≤ m.committed = omega (arith, long, committed_long g pool counts m is) in
    let first : c.args.section ≡ m.first = c.requires.section ∙ ap oldest_at (sym c.self.view_is) ∙ oldest_at-is g pool counts m is in
    let next : c.wrap-self-inside.result ≡ wrap g.sections (m.first + 1) =
    c.wrap-self-inside.ensures.section ∙ ap (λ (n : ℕ). wrap n (m.first + 1)) c.sections.ensures in
    subst (λ (i : ℕ). IsRing g pool (set counts i 0) (record m { first = c.wrap-self-inside.result; committed = m.committed - 1 })) (sym first)
    (subst (λ (n : ℕ). IsRing g pool (set counts m.first 0) (record m { first = n; committed = m.committed - 1 })) (sym next)
    (IsRing-freed g pool counts m is some))

pub returns : goal.returns
returns c =
    let g = c.self.inside.pool.geometry in
    let pool = c.self.inside.pool.bytes in
    let counts = c.self.inside.counts.items in
    let m = c.self.inside.marks in
    let is = c.self.invariant in
    let long = subst (λ (ring : JournalRing). 1 ≤ length ring.committed) (sym c.self.view_is) c.requires.committed in
    let some : 1 ≤ m.committed = omega (arith, long, committed_long g pool counts m is) in
    let next : c.wrap-self-inside.result ≡ wrap g.sections (m.first + 1) =
    c.wrap-self-inside.ensures.section ∙ ap (λ (n : ℕ). wrap n (m.first + 1)) c.sections.ensures in
    ap (λ (n : ℕ). view_of g pool (record m { first = n; committed = m.committed - 1 })) next
    ∙ view_of-freed g pool counts m is some
    ∙ ap with_free c.self.view_is
