use Rattle.std.proofs.Common.{arith}
use Rattle.sector_disk.proofs.RecordLemmas.{reads_of_record}
use Rattle.sector_disk.proofs.LatestLemmas.{Reads-latest}
use Rattle.sector_disk.proofs.mem_disk.MemDiskDisk.read_run.Goals as goal

pub returns-clause-read : goal.returns-clause-read
returns-clause-read c =
    let disk = c.args.self.now in
    reads_of_record disk.base.items disk.events.items c.args.at c.read_latest.new.buffer
    (Reads-latest disk.sectors disk.latest.items disk.base.items disk.events.items c.args.at c.read_latest.new.buffer disk.is_latest (omega (arith, c.requires.inside, c.read_latest.auto.buffer)) (rw c.deref.ensures.value at c.read_latest.ensures))
