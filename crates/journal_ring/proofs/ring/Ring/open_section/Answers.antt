use Rattle.std.proofs.Common.{◌≡◌, ◌+◌, ◌<◌, ◌≤◌, ℕ, arith, sym, subst, ap, refl, ◌∙◌, if◌then◌else◌}
use Rattle.std.proofs.lemmas.Bool.{lt-ltb, le-ltb}
use Rattle.image_model.specs.Geometry.{section_entries}
use Rattle.image_model.specs.Walk.{later}
use Rattle.journal_model.specs.Ring.{HasFreeSection, has_open_section}
use Rattle.journal_ring.specs.Sections.{wrap}
use Rattle.journal_ring.specs.Ring.{section_of, number_at, view_of, with_section}
use Rattle.journal_ring.proofs.RingLemmas.{IsRing-open, view_of-open, Clears, clears_from, free_more, with_section-open, entries_some}
use Rattle.journal_ring.proofs.ring.Ring.open_section.Goals as goal
use Rattle.journal_ring.proofs.ring.Ring.open_section.Goals.{then-next-opened, else-next-opened}

more : (c : goal.After-self-2-1) → c.self.inside.marks.committed + c.self.inside.marks.opened < c.self.inside.pool.geometry.sections
more c = free_more c.self.inside.pool.geometry c.self.inside.pool.bytes c.self.inside.marks (subst HasFreeSection (sym c.self.view_is) c.requires)

number_is : (c : goal.After-self-2-1) → c.if-next-opened.number
    ≡ number_at c.self.inside.pool.geometry.sections (section_of c.self.inside.pool.geometry c.self.inside.marks c.self.inside.marks.committed) c.self.inside.marks.number c.self.inside.marks.opened
number_is c =
    let g = c.self.inside.pool.geometry in
    let m = c.self.inside.marks in
    let next : c.wrap-next.result ≡ section_of g m m.committed =
    c.wrap-next.ensures.section ∙ ap (λ (n : ℕ). wrap n (m.first + m.committed)) c.sections-sections.ensures in
    let sections = c.sections-sections.ensures in
    elim c.if-next-opened.branch [
      | then-next-opened w ↦
          let low : section_of g m m.committed + m.opened < g.sections = omega (arith, next, sections, w.if-next-opened.true) in
          w.number-is ∙ ap (λ b. if b then m.number else later 1 m.number) (sym (lt-ltb (section_of g m m.committed + m.opened) g.sections low))
      | else-next-opened w ↦
          let high : g.sections ≤ section_of g m m.committed + m.opened = omega (arith, next, sections, w.if-next-opened.false) in
          w.number-is ∙ w.next_number-number.ensures.next
          ∙ ap (λ b. if b then m.number else later 1 m.number) (sym (le-ltb (section_of g m m.committed + m.opened) g.sections high))
    ]

clears : (c : goal.After-self-2-1) → Clears c.self.inside.pool.geometry c.self.inside.pool.bytes c.open.new.self.bytes c.self.inside.marks
clears c =
    let g = c.self.inside.pool.geometry in
    let m = c.self.inside.marks in
    let place : c.wrap-section.result ≡ section_of g m (m.committed + m.opened) =
    c.wrap-section.ensures.section ∙ ap (λ (n : ℕ). wrap n (m.first + (m.committed + m.opened))) c.sections-sections.ensures in
    clears_from g c.self.inside.pool.bytes c.open.new.self.bytes m g.shape c.wrap-section.result c.if-next-opened.number
    (section_entries g.shape) c.self.inside.pool.bytes refl place (number_is c) refl refl c.open.ensures.number c.open.ensures.entries c.open.ensures.others

pub invariant_of-self : goal.invariant_of-self
invariant_of-self c =
    let is = clears c in
    rw c.open.ensures.geometry
    (IsRing-open c.self.inside.pool.geometry c.self.inside.pool.bytes c.open.new.self.bytes c.self.inside.counts.items c.self.inside.marks
    c.self.invariant (more c) is.changes is.bears is.clear)

pub returns-clause-section : goal.returns-clause-section
returns-clause-section c =
    let is = clears c in
    rw c.open.ensures.geometry
    (view_of-open c.self.inside.pool.geometry c.self.inside.pool.bytes c.open.new.self.bytes c.self.inside.counts.items c.self.inside.marks
    c.self.invariant (more c) is.changes is.bears is.clear
    ∙ ap with_section c.self.view_is)

pub returns-clause-is_open : goal.returns-clause-is_open
returns-clause-is_open c =
    let is = clears c in
    let g = c.self.inside.pool.geometry in
    rw c.open.ensures.geometry
    (ap has_open_section (view_of-open g c.self.inside.pool.bytes c.open.new.self.bytes c.self.inside.counts.items c.self.inside.marks
    c.self.invariant (more c) is.changes is.bears is.clear)
    ∙ with_section-open (view_of g c.self.inside.pool.bytes c.self.inside.marks) (entries_some g c.self.invariant.geometry))
