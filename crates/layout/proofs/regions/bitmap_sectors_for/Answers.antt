use Rattle.std.proofs.Common.{refl}
use Rattle.image_model.proofs.Regions.{bitmap_sectors_for-is}
use Rattle.layout.proofs.regions.bitmap_sectors_for.Goals as goal

pub returns : goal.returns
returns c =
    rw (c.div_ceil.ensures, c.regions_for.ensures, bitmap_sectors_for-is c.args.blocks c.args.log2_region) refl
