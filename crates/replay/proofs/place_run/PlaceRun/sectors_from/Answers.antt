use Rattle.std.proofs.Common.{arith, ◌+◌, ◌-◌, ◌/◌, ◌^◌, ap, ◌≡◌}
use Rattle.image_model.specs.Geometry.{Shape}
use Rattle.image_model.proofs.GeometryLemmas.{data_at-inside}
use Rattle.replay.proofs.place_run.PlaceRun.sectors_from.Goals as goal

pub overflow_add-data_at : goal.overflow_add-data_at
overflow_add-data_at c =
    let g = c.args.geometry.now in
    let spb : c.shape-spb.result.spb ≡ g.shape.spb = ap (λ (x : Shape). x.spb) c.shape-spb.ensures.shape in
    let blocks = c.blocks-then-at-self.ensures in
    let inside = data_at-inside g (2 ^ 48) (c.args.block + (c.max-count.result - 1) / c.shape-spb.result.spb) blocks.geometry (omega (arith, c.if-further-blocks.true, blocks.blocks, c.requires)) in
    omega (arith, spb, inside.1, c.data_at.ensures)

pub overflow_add-at : goal.overflow_add-at
overflow_add-at c =
    let g = c.args.geometry.now in
    let spb : c.shape-spb.result.spb ≡ g.shape.spb = ap (λ (x : Shape). x.spb) c.shape-spb.ensures.shape in
    let few = c.blocks-then-at-self.ensures.geometry.spb.1 in
    let inside = data_at-inside g (2 ^ 48) c.args.block c.blocks-then-at-self.ensures.geometry c.requires in
    omega (arith, spb, few, inside.1, c.data_at-at.ensures, c.max-count.ensures, c.min.ensures)
