use Rattle.std.proofs.Common.{◌<◌, max, arith}
use Rattle.layout.proofs.RegionLemmas.{below_most}
use Rattle.layout.proofs.regions.fitting_log2_region.Goals as goal

pub overflow_add-fitting : goal.overflow_add-fitting
overflow_add-fitting c =
    let low : c.loop-fitting.fitting < max c.args.log2_region 48 =
    below_most c.args.blocks c.args.log2_region c.args.sectors c.loop-fitting.fitting
    c.requires.blocks c.requires.sectors c.loop-fitting.invariant.least (omega (arith, c.bitmap_sectors_for.ensures)) in
    omega arith
