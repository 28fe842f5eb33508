use Rattle.std.proofs.Common.{◌≡◌, rules, ◌∙◌, Some}
use Rattle.std.specs.Vec.{vec_capacity}
use Rattle.journal_ring.proofs.CutLemmas.{parts_shown}
use Rattle.journal_ring.proofs.pieces.Pieces.data.Goals as goal

here : (c : goal.After-bytes) → c.self.inside.cut ≡ Some c.args.i
here c = let t = c.if-eq.true in let e = c.eq.ensures in search rules

pub returns-then-eq : goal.returns-then-eq
returns-then-eq c =
    c.bytes.ensures
    ∙ parts_shown c.self.inside.geometry c.self.inside.before.items c.self.inside.behind.items (vec_capacity c.self.inside.before) (vec_capacity c.self.inside.behind)
    c.self.inside.cut c.args.self.now c.args.i c.args.n c.index.result.now c.self.invariant c.self.view_is (here c) c.requires.n c.index.ensures
