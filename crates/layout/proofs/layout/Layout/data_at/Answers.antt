use Rattle.std.proofs.Common.{arith}
use Rattle.layout.proofs.PlaceLemmas.{has_place}
use Rattle.layout.proofs.layout.Layout.data_at.Goals as goal

pub overflow_mul-block : goal.overflow_mul-block
overflow_mul-block c =
    let place = has_place c.args.self c.args.block c.requires.layout c.requires.block in
    omega arith

pub sector_at-requires-clause-fits : goal.sector_at-requires-clause-fits
sector_at-requires-clause-fits c =
    let place = has_place c.args.self c.args.block c.requires.layout c.requires.block in
    omega arith
