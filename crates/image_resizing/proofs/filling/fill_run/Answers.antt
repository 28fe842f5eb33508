use Rattle.std.proofs.Common.{arith}
use Rattle.image_model.proofs.Regions.{blocks-low}
use Rattle.image_resizing.proofs.filling.fill_run.Goals as goal

pub overflow_add-first : goal.overflow_add-first
overflow_add-first g c =
    let low = blocks-low c.args.plan.now.grown.geometry _ c.requires.plan.grown.geometry in
    omega (arith, low, c.requires.done, c.blocks-2.ensures.blocks)
