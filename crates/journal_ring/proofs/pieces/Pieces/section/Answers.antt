use Rattle.std.proofs.Common.{◌+◌, ◌-◌, ◌*◌, ◌≤◌, ℕ, length, sym, subst, ◌∙◌}
use Rattle.commit_id.specs.Shape.{as_shape}
use Rattle.std.specs.Vec.{vec_capacity}
use Rattle.journal_ring.proofs.CutLemmas.{behind_shown}
use Rattle.journal_ring.proofs.pieces.Pieces.section.Goals as goal

pub section-requires-clause-inside : goal.section-requires-clause-inside
section-requires-clause-inside c =
    let is = c.shape-shape.ensures.is_shape in
    subst (λ (n : ℕ). 512 * ((c.args.i - c.in-Some.cut - 1 + 1) * n) ≤ length c.bytes.result.now) (sym is.sectors)
    (behind_shown c.self.inside.geometry c.self.inside.before.items c.self.inside.behind.items (vec_capacity c.self.inside.before) (vec_capacity c.self.inside.behind)
    c.self.inside.cut c.args.self.now c.in-Some.cut c.args.i c.shape-shape.result.entries (as_shape c.shape-shape.result) c.index-back.result.now c.bytes.result.now
    c.self.invariant c.self.view_is c.in-Some.is c.shape-shape.ensures.shape is.entries c.if-cut-i.true c.requires.section c.index-back.ensures c.bytes.ensures).0

pub returns-in-Some : goal.returns-in-Some
returns-in-Some c =
    let is = c.shape-shape.ensures.is_shape in
    c.section.ensures.bytes
    ∙ (behind_shown c.self.inside.geometry c.self.inside.before.items c.self.inside.behind.items (vec_capacity c.self.inside.before) (vec_capacity c.self.inside.behind)
    c.self.inside.cut c.args.self.now c.in-Some.cut c.args.i c.shape-shape.result.entries (as_shape c.shape-shape.result) c.index-back.result.now c.bytes.result.now
    c.self.invariant c.self.view_is c.in-Some.is c.shape-shape.ensures.shape is.entries c.if-cut-i.true c.requires.section c.index-back.ensures c.bytes.ensures).1
