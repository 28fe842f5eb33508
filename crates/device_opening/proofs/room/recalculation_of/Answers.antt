use Rattle.image_model.specs.Geometry.{tag_run_of}
use Rattle.device_opening.proofs.JudgedLemmas.{own_layout}
use Rattle.device_opening.proofs.room.recalculation_of.Goals as goal

pub of-requires-clause-geometry : goal.of-requires-clause-geometry
unfolding tag_run_of
of-requires-clause-geometry c = own_layout c.requires.0 c.args.format.now c.requires.1
