use Rattle.std.proofs.Common.{ap}
use Rattle.image_model.specs.Geometry.{Shape}
use Rattle.recalculation.proofs.PlacesLemmas.{beside_inside}
use Rattle.recalculation.proofs.block_run.BlockRun.load.Goals as goal

pub read_into-requires-clause-inside : goal.read_into-requires-clause-inside
read_into-requires-clause-inside g c =
    let spb_is = ap (λ (s : Shape). s.spb) c.shape.ensures.shape in
    rw (c.data_at-at.ensures, spb_is) (beside_inside c.args.places.now.geometry _ c.args.block c.args.count c.requires.geometry c.requires.side_by_side c.requires.some c.requires.inside)
