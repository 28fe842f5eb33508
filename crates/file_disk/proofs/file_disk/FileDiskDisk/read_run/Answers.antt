use Rattle.std.proofs.Common.{◌≡◌, ◌*◌, ◌/◌, arith}
use Rattle.file_disk.proofs.file_disk.FileDiskDisk.read_run.Goals as goal

pub returns-clause-read : goal.returns-clause-read
returns-clause-read g c =
    let place : 512 * c.args.at / 512 ≡ c.args.at = omega arith in
    rw c.in-Some.is (rw place at c.read_all.ensures.read)
