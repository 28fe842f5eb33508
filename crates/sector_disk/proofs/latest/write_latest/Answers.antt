use Rattle.std.proofs.Common.{arith}
use Rattle.sector_disk.proofs.LatestLemmas.{write_sectors}
use Rattle.sector_disk.proofs.latest.write_latest.Goals as goal

pub returns : goal.returns
returns c content s was =
    rw c.copy_from_slice.ensures.after (write_sectors c.args.latest.now c.args.bytes.now c.args.at _ c.requires.whole c.requires.inside (omega arith) content s was)
