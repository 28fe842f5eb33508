use Rattle.std.proofs.Common.{◌^◌, arith}
use Rattle.dirty_bitmap.proofs.BitsLemmas.{regions-few}
use Rattle.dirty_bitmap.proofs.bits.Bits.none.Goals as goal

pub none-requires : goal.none-requires
none-requires c = omega (arith, regions-few c.args.geometry (2 ^ 48) c.blocks-2.ensures.geometry, c.regions.ensures)
