use Rattle.std.proofs.Common.{length, arith}
use Rattle.sector_disk.proofs.LatestLemmas.{read_sectors}
use Rattle.sector_disk.proofs.latest.read_latest.Goals as goal

pub returns : goal.returns
returns c =
    read_sectors c.args.latest.now c.copy_from_slice.new.self c.args.at (length c.copy_from_slice.new.self) _ c.copy_from_slice.ensures.after
    (omega (arith, c.copy_from_slice.ensures.len)) (omega (arith, c.copy_from_slice.ensures.len, c.requires.whole))
