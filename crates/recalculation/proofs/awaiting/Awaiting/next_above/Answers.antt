use Rattle.std.proofs.Common.{◌∙◌, ap}
use Rattle.image_model.specs.Geometry.{Shape}
use Rattle.recalculation.proofs.PositionLemmas.{above_found, above_none, nothing_above}
use Rattle.recalculation.proofs.awaiting.Awaiting.next_above.Goals as goal

pub returns-in_default : goal.returns-in_default
returns-in_default c = nothing_above c.self.inside.places.geometry c.self.inside.places.first c.args.at c.self.inside.left c.args.self.now c.self.view_is c.in_default.is

pub returns-then-block-blocks : goal.returns-then-block-blocks
returns-then-block-blocks c =
    above_none c.self.inside.places c.self.inside.left c.args.self.now c.self.view_is c.args.at c.shape.result.spb c.blocks-2.result c.self.invariant.numbers.on_disk
    (ap (λ (s : Shape). s.spb) c.shape.ensures.shape) c.blocks-2.ensures.blocks c.if-block-blocks.true

pub returns : goal.returns
returns c =
    c.next.ensures
    ∙ above_found c.self.inside.places c.self.inside.left c.args.self.now c.self.view_is c.args.at c.shape.result.spb c.blocks-2.result c.self.invariant.numbers.on_disk
    (ap (λ (s : Shape). s.spb) c.shape.ensures.shape) c.blocks-2.ensures.blocks c.in-Some.left c.in-Some.is (c.self.invariant.is_left_ c.in-Some.left c.in-Some.is)
    c.region_of.result c.region_of.ensures c.if-block-blocks.false
