use Rattle.disk_model.proofs.MomentsLemmas.{adds_then, sync_adds}
use Rattle.journal_erasure.specs.Erasing.{IsOfPart}
use Rattle.journal_erasure.proofs.erasing.write_and_sync.Goals as goal

pub returns-clause-moments : goal.returns-clause-moments
returns-clause-moments g c =
    let W = IsOfPart c.args.geometry.now c.args.erasure.now c.args.part c.args.from c.args.to c.args.empty.now in
    adds_then W c.write_sections.ensures.moments (sync_adds W (g.met.D.Disk.reads_an_image c.write_sections.new.disk) c.sync.ensures.moments)
