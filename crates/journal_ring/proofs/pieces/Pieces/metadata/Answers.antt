use Rattle.std.proofs.Common.{◌≡◌, rules, sym, ◌∙◌, Some}
use Rattle.std.specs.Vec.{vec_capacity}
use Rattle.journal_ring.proofs.CutLemmas.{metadata_long, metadata_shown}
use Rattle.journal_ring.proofs.pieces.Pieces.metadata.Goals as goal

here : (c : goal.After-bytes) → c.self.inside.cut ≡ Some c.args.i
here c = let t = c.if-eq.true in let e = c.eq.ensures in search rules

pub returns-then-eq : goal.returns-then-eq
returns-then-eq c =
    c.bytes.ensures
    ∙ metadata_shown c.self.inside.geometry c.self.inside.before.items c.self.inside.behind.items (vec_capacity c.self.inside.before) (vec_capacity c.self.inside.behind)
    c.self.inside.cut c.args.self.now c.args.i c.index.result.now c.self.invariant c.self.view_is (here c) c.index.ensures

pub slice_bounds-result-end : goal.slice_bounds-result-end
slice_bounds-result-end c =
    sym (metadata_long c.self.inside.geometry c.self.inside.before.items c.self.inside.behind.items (vec_capacity c.self.inside.before) (vec_capacity c.self.inside.behind)
    c.self.inside.cut c.args.self.now c.args.i c.section.result.now c.self.invariant c.self.view_is c.requires.section c.section.ensures)
