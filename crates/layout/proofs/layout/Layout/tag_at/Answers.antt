use Rattle.std.proofs.Common.{arith}
use Rattle.image_model.specs.Geometry.{tag_offset}
use Rattle.layout.proofs.PlaceLemmas.{has_place}
use Rattle.layout.proofs.layout.Layout.tag_at.Goals as goal

pub overflow_mul-sector : goal.overflow_mul-sector
overflow_mul-sector c =
    let place = has_place c.args.self c.args.block c.requires.layout c.requires.block in
    omega arith

pub area_at-area-requires-clause-fits : goal.area_at-area-requires-clause-fits
area_at-area-requires-clause-fits c =
    let place = has_place c.args.self c.args.block c.requires.layout c.requires.block in
    omega arith

pub overflow_add-result : goal.overflow_add-result
unfolding tag_offset
overflow_add-result c =
    let place = has_place c.args.self c.args.block c.requires.layout c.requires.block in
    omega arith
