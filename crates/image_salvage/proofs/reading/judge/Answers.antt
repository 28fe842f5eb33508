use Rattle.std.proofs.Common.{ap, arith}
use Rattle.image_model.specs.Geometry.{Shape}
use Rattle.check_model.proofs.JudgingLemmas.{block_sector-low}
use Rattle.image_salvage.proofs.reading.judge.Goals as goal

pub overflow_mul-block : goal.overflow_mul-block
overflow_mul-block c =
    omega (arith, block_sector-low c.args.geometry.now c.args.block c.shape.result.spb c.requires.geometry c.requires.block (ap (λ (s : Shape). s.spb) c.shape.ensures.shape))
