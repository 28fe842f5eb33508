use Rattle.std.proofs.Common.{◌≡◌, ◌+◌, ◌-◌, ◌<◌, inl, inr, ℕ, nat_lt, arith, sym, ap, ◌∙◌, slice_index, length}
use Rattle.std.proofs.lemmas.List.{get_or_default}
use Rattle.image_model.specs.Geometry.{section_entries}
use Rattle.journal_model.specs.Ring.{has_open_section}
use Rattle.journal_ring.specs.Sections.{wrap}
use Rattle.journal_ring.specs.Ring.{section_of}
use Rattle.journal_ring.proofs.RingLemmas.{open-none, open-shut, open-last}
use Rattle.journal_ring.proofs.ring.Ring.has_open_section.Goals as goal

pub returns-then-closed : goal.returns-then-closed
returns-then-closed c =
    let g = c.self.inside.pool.geometry in
    let bytes = c.self.inside.pool.bytes in
    let m = c.self.inside.marks in
    elim c.then-closed.either [
      | inl closed ↦ sym (ap has_open_section (sym c.self.view_is) ∙ open-shut g bytes m closed)
      | inr none ↦ sym (ap has_open_section (sym c.self.view_is) ∙ open-none g bytes m none.1)
    ]

pub returns : goal.returns
returns c =
    let g = c.self.inside.pool.geometry in
    let bytes = c.self.inside.pool.bytes in
    let counts = c.self.inside.counts.items in
    let m = c.self.inside.marks in
    let is = c.self.invariant in
    let last : ℕ = m.opened - 1 in
    let some : m.opened ≡ last + 1 = omega arith in
    let place : m.committed + m.opened - 1 ≡ m.committed + last = omega arith in
    let where_ : c.wrap-last.result ≡ section_of g m (m.committed + last) =
    c.wrap-last.ensures.section ∙ ap (λ (n : ℕ). wrap n (m.first + (m.committed + m.opened - 1))) c.sections.ensures
    ∙ ap (λ (k : ℕ). wrap g.sections (m.first + k)) place in
    let inside : c.wrap-last.result < length counts = omega (arith, is.counts_are, c.sections.ensures, c.wrap-last.ensures.inside) in
    let count : c.index.result.now ≡ slice_index counts (section_of g m (m.committed + last)) =
    c.index.ensures ∙ get_or_default counts c.wrap-last.result c.index.result.now 0 inside ∙ ap (slice_index counts) where_ in
    let size : c.shape.result.entries ≡ section_entries g.shape = c.shape.ensures.is_shape.entries ∙ ap section_entries c.shape.ensures.shape in
    ap (λ (n : ℕ). nat_lt n c.shape.result.entries) count
    ∙ ap (nat_lt (slice_index counts (section_of g m (m.committed + last)))) size
    ∙ sym (open-last g bytes counts m last is some c.if-closed.false)
    ∙ ap has_open_section c.self.view_is
