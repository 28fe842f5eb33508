use Rattle.std.proofs.Common.{ℕ, sym, subst, ap, ◌∙◌}
use Rattle.journal_model.specs.Ring.{with_commit}
use Rattle.journal_ring.specs.Batch.{committed_marks}
use Rattle.journal_ring.specs.Ring.{view_of, IsRing}
use Rattle.journal_ring.proofs.BatchLemmas.{IsRing-committed, view_of-committed}
use Rattle.journal_ring.proofs.ring.Ring.move_on.Goals as goal

pub invariant_of-self : goal.invariant_of-self
invariant_of-self c =
    let g = c.self.inside.pool.geometry in
    let bytes = c.self.inside.pool.bytes in
    let counts = c.self.inside.counts.items in
    let m = c.self.inside.marks in
    let marks = c.committed-self-inside.ensures ∙ ap (λ (n : ℕ). committed_marks n m) c.sections.ensures in
    subst (IsRing g bytes counts) (sym marks) (IsRing-committed g bytes counts m c.self.invariant)

pub returns : goal.returns
returns c =
    let g = c.self.inside.pool.geometry in
    let bytes = c.self.inside.pool.bytes in
    let counts = c.self.inside.counts.items in
    let m = c.self.inside.marks in
    let marks = c.committed-self-inside.ensures ∙ ap (λ (n : ℕ). committed_marks n m) c.sections.ensures in
    ap (view_of g bytes) marks ∙ view_of-committed g bytes counts m c.self.invariant ∙ ap with_commit c.self.view_is
