use Rattle.std.proofs.Common.{◌<◌, ◌*◌, ap, sym, subst, ◌∙◌}
use Rattle.commit_id.specs.Shape.{as_shape}
use Rattle.image_model.specs.Geometry.{Shape, section_entries}
use Rattle.image_model.specs.Section.{Entry}
use Rattle.std.specs.Vec.{vec_capacity}
use Rattle.journal_ring.specs.Runs.{Sections}
use Rattle.journal_ring.proofs.CutLemmas.{cut_here, parts_there, put_there}
use Rattle.journal_ring.proofs.pieces.Pieces.put_here.Goals as goal

pub put_in-requires-clause-parts : goal.put_in-requires-clause-parts
put_in-requires-clause-parts c none =
    let g = c.self.inside.geometry in
    let before = c.self.inside.before.items in
    let behind = c.self.inside.behind.items in
    let low = subst (λ (x : Sections). c.args.n < section_entries x.geometry.shape) (sym c.self.view_is) c.requires.n in
    parts_there g.shape c.requires.cut.0 c.args.n before behind
    (cut_here g before behind (vec_capacity c.self.inside.before) (vec_capacity c.self.inside.behind) c.self.inside.cut c.args.self.now c.requires.cut.0 c.self.invariant c.self.view_is c.requires.cut.1)
    low none
    ∙ ap (λ (s : Shape). 512 * s.spb) (sym c.shape-shape.ensures.shape)

pub invariant_of-self : goal.invariant_of-self
invariant_of-self c =
    let entry : Entry = record { sector = c.args.sector; bytes = c.args.block.now; tag = c.args.tag.now } in
    (put_there c.self.inside.geometry c.self.inside.before.items c.self.inside.behind.items c.put_in.new.before.items c.put_in.new.behind.items
    (vec_capacity c.self.inside.before) (vec_capacity c.self.inside.behind) (vec_capacity c.put_in.new.before) (vec_capacity c.put_in.new.behind)
    c.self.inside.cut c.args.self.now (as_shape c.shape-shape.result) c.args.n entry c.self.invariant c.self.view_is c.requires.cut c.shape-shape.ensures.shape c.requires.n
    c.put_in.ensures.put c.put_in.ensures.capacity.0 c.put_in.ensures.capacity.1).pieces

pub returns-clause-put : goal.returns-clause-put
returns-clause-put c =
    let entry : Entry = record { sector = c.args.sector; bytes = c.args.block.now; tag = c.args.tag.now } in
    (put_there c.self.inside.geometry c.self.inside.before.items c.self.inside.behind.items c.put_in.new.before.items c.put_in.new.behind.items
    (vec_capacity c.self.inside.before) (vec_capacity c.self.inside.behind) (vec_capacity c.put_in.new.before) (vec_capacity c.put_in.new.behind)
    c.self.inside.cut c.args.self.now (as_shape c.shape-shape.result) c.args.n entry c.self.invariant c.self.view_is c.requires.cut c.shape-shape.ensures.shape c.requires.n
    c.put_in.ensures.put c.put_in.ensures.capacity.0 c.put_in.ensures.capacity.1).put

pub returns-clause-others : goal.returns-clause-others
returns-clause-others c =
    let entry : Entry = record { sector = c.args.sector; bytes = c.args.block.now; tag = c.args.tag.now } in
    (put_there c.self.inside.geometry c.self.inside.before.items c.self.inside.behind.items c.put_in.new.before.items c.put_in.new.behind.items
    (vec_capacity c.self.inside.before) (vec_capacity c.self.inside.behind) (vec_capacity c.put_in.new.before) (vec_capacity c.put_in.new.behind)
    c.self.inside.cut c.args.self.now (as_shape c.shape-shape.result) c.args.n entry c.self.invariant c.self.view_is c.requires.cut c.shape-shape.ensures.shape c.requires.n
    c.put_in.ensures.put c.put_in.ensures.capacity.0 c.put_in.ensures.capacity.1).others
