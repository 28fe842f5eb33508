use Rattle.std.proofs.Common.{inl}
use Rattle.std.proofs.lemmas.Result.{on_ok_weaker}
use Rattle.disk_model.proofs.MomentsLemmas.{adds_then, sync_adds}
use Rattle.formatting_model.specs.FirstSector.{IsFirst, zero_sector}
use Rattle.formatting_model.proofs.FirstSectorLemmas.{first_adds}
use Rattle.formatting_model.proofs.FormattedLemmas.{zero_sector_whole}
use Rattle.formatting_model.proofs.OrderLemmas.{amid_zeros, first_sync, forget_order}
use Rattle.image_formatting.proofs.first_sector.forget.Goals as goal

pub returns-in_err-write_run-clause-moments : goal.returns-in_err-write_run-clause-moments
returns-in_err-write_run-clause-moments g c = inl (amid_zeros c.write_run.ensures.moments)

pub returns-clause-moments : goal.returns-clause-moments
returns-clause-moments g c = forget_order _ _ _ c.sync.result (g.met.D.Disk.reads_an_image c.args.disk.now)
    c.write_run.ensures.moments c.in_ok-write_run.ensures.written c.sync.ensures.moments c.sync.ensures.synced c.sync.ensures.err

pub returns-clause-synced : goal.returns-clause-synced
returns-clause-synced g c = on_ok_weaker c.sync.result (λ synced.
    first_sync _ _ _ (g.met.D.Disk.reads_an_image c.args.disk.now)
    c.write_run.ensures.moments c.in_ok-write_run.ensures.written c.sync.ensures.moments synced) c.sync.ensures.synced

pub returns-in_err-write_run-clause-writes : goal.returns-in_err-write_run-clause-writes
returns-in_err-write_run-clause-writes g c = first_adds zero_sector zero_sector_whole c.write_run.ensures.moments

pub returns-clause-writes : goal.returns-clause-writes
returns-clause-writes g c =
    adds_then (IsFirst zero_sector) (first_adds zero_sector zero_sector_whole c.write_run.ensures.moments)
    (sync_adds (IsFirst zero_sector) (g.met.D.Disk.reads_an_image c.write_run.new.self) c.sync.ensures.moments)
