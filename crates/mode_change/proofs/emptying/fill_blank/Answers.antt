use Rattle.std.proofs.Common.{rules}
use Rattle.disk_model.proofs.MomentsLemmas.{adds_then, sync_adds}
use Rattle.image_model.specs.Geometry.{bitmap_sectors}
use Rattle.change_model.specs.Change.{IsOfFilling}
use Rattle.image_model.specs.EmptySections.{empty_image}
use Rattle.mode_change.proofs.JournalStepLemmas.{blank_moments}
use Rattle.mode_change.proofs.StepLemmas.{is_run}
use Rattle.mode_change.proofs.emptying.fill_blank.Goals as goal

pub write_run-requires-clause-run : goal.write_run-requires-clause-run
write_run-requires-clause-run g c =
    is_run c.args.geometry.now (g.D.Disk.identity c.args.disk.now).sectors c.section_at.result _ c.requires.geometry c.requires.fits (search rules) (search rules)

pub returns-in_err-write_run-clause-moments : goal.returns-in_err-write_run-clause-moments
returns-in_err-write_run-clause-moments g c =
    blank_moments c.args.geometry.now (g.D.Disk.identity c.args.disk.now).sectors c.requires.geometry c.requires.fits c.args.empty.now c.requires.empty _ _ (search rules) (search rules) c.write_run.ensures.moments

pub returns-clause-moments : goal.returns-clause-moments
returns-clause-moments g c =
    let geometry = c.args.geometry.now in
    let W = IsOfFilling geometry (bitmap_sectors geometry) (empty_image geometry c.args.empty.now) in
    adds_then W
    (blank_moments geometry (g.D.Disk.identity c.args.disk.now).sectors c.requires.geometry c.requires.fits c.args.empty.now c.requires.empty _ _ (search rules) (search rules) c.write_run.ensures.moments)
    (sync_adds W (g.met.D.Disk.reads_an_image c.write_run.new.self) c.sync.ensures.moments)
