use Rattle.std.proofs.Common.{rules}
use Rattle.disk_model.proofs.MomentsLemmas.{adds_then, sync_adds}
use Rattle.formatting_model.specs.FirstSector.{IsFirst, head_of}
use Rattle.formatting_model.proofs.FirstSectorLemmas.{amid_founding, head_adds}
use Rattle.image_formatting.proofs.first_sector.found.Goals as goal

pub returns-in_err-write_run-clause-moments : goal.returns-in_err-write_run-clause-moments
returns-in_err-write_run-clause-moments g c =
    amid_founding c.args.fields.now c.sync.ensures.moments c.in_ok-sync.ensures.synced
    (head_adds c.args.fields.now c.write.new.bytes (search rules) c.write.ensures.written c.write_run.ensures.moments)

pub returns-clause-moments : goal.returns-clause-moments
returns-clause-moments g c =
    amid_founding c.args.fields.now c.sync.ensures.moments c.in_ok-sync.ensures.synced
    (adds_then _ (head_adds c.args.fields.now c.write.new.bytes (search rules) c.write.ensures.written c.write_run.ensures.moments)
    (sync_adds _ (g.met.D.Disk.reads_an_image c.write_run.new.self) c.sync-2.ensures.moments))

pub returns-in_err-sync-clause-writes : goal.returns-in_err-sync-clause-writes
returns-in_err-sync-clause-writes g c = sync_adds (IsFirst (head_of c.args.fields.now)) (g.met.D.Disk.reads_an_image c.args.disk.now) c.sync.ensures.moments

pub returns-in_err-write_run-clause-writes : goal.returns-in_err-write_run-clause-writes
returns-in_err-write_run-clause-writes g c =
    adds_then (IsFirst (head_of c.args.fields.now)) (sync_adds (IsFirst (head_of c.args.fields.now)) (g.met.D.Disk.reads_an_image c.args.disk.now) c.sync.ensures.moments)
    (head_adds c.args.fields.now c.write.new.bytes (search rules) c.write.ensures.written c.write_run.ensures.moments)

pub returns-clause-writes : goal.returns-clause-writes
returns-clause-writes g c =
    adds_then (IsFirst (head_of c.args.fields.now)) (sync_adds (IsFirst (head_of c.args.fields.now)) (g.met.D.Disk.reads_an_image c.args.disk.now) c.sync.ensures.moments)
    (adds_then (IsFirst (head_of c.args.fields.now)) (head_adds c.args.fields.now c.write.new.bytes (search rules) c.write.ensures.written c.write_run.ensures.moments)
    (sync_adds (IsFirst (head_of c.args.fields.now)) (g.met.D.Disk.reads_an_image c.write_run.new.self) c.sync-2.ensures.moments))
