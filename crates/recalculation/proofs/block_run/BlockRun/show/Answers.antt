use Rattle.std.proofs.Common.{arith}
use Rattle.image_model.proofs.Regions.{blocks-low}
use Rattle.recalculation.proofs.block_run.BlockRun.show.Goals as goal

pub shows-requires : goal.shows-requires
shows-requires g c = let few = blocks-low c.args.places.now.geometry _ c.requires.geometry in let low = c.requires.run.inside in omega (arith, few, low)
