use Rattle.std.proofs.Common.{◌+◌, sym, ap, ◌∙◌}
use Rattle.image_model.proofs.Regions.{regions_for-is}
use Rattle.layout.proofs.regions.regions_for.Goals as goal

pub returns : goal.returns
returns c =
    ap (λ n. n + 1) c.region_of.ensures
    ∙ sym (regions_for-is c.args.blocks c.args.log2_region c.requires.blocks.0)
