use Rattle.std.proofs.Common.{◌∙◌, arith}
use Rattle.layout.proofs.RegionLemmas.{unwrap_or-shifted}
use Rattle.layout.proofs.regions.region_of.Goals as goal

pub returns : goal.returns
returns c =
    c.unwrap_or.ensures
    ∙ unwrap_or-shifted c.args.block c.args.log2_region c.checked_shr.result (omega arith) c.checked_shr.ensures
