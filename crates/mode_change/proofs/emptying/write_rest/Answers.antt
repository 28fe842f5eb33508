use Rattle.std.proofs.Common.{rules, ◌≡◌}
use Rattle.disk_model.proofs.MomentsLemmas.{adds_then, sync_adds}
use Rattle.image_model.specs.Geometry.{bitmap_sectors}
use Rattle.change_model.specs.Change.{IsOfRest}
use Rattle.image_model.specs.EmptySections.{empty_image}
use Rattle.mode_change.proofs.JournalStepLemmas.{behind_slice, rest_is_run, rest_moments}
use Rattle.mode_change.proofs.emptying.write_rest.Goals as goal

pub write_any-requires-clause-run : goal.write_any-requires-clause-run
write_any-requires-clause-run g c some =
    rest_is_run c.args.geometry.now (g.D.Disk.identity c.args.disk.now).sectors c.requires.geometry c.requires.fits c.args.empty.now c.requires.empty _ _ (search rules) (search rules) some

pub returns-in_err-write_any-clause-moments : goal.returns-in_err-write_any-clause-moments
returns-in_err-write_any-clause-moments g c =
    let bitmap : c.bitmap_sectors-bitmap.result ≡ bitmap_sectors c.args.geometry.now = search rules in
    let bytes = behind_slice c.args.geometry.now (g.D.Disk.identity c.args.disk.now).sectors c.requires.geometry c.requires.fits c.args.empty.now c.requires.empty c.bitmap_sectors-bitmap.result bitmap in
    rest_moments c.args.geometry.now (g.D.Disk.identity c.args.disk.now).sectors c.requires.geometry c.requires.fits c.args.empty.now c.requires.empty _ _ (search rules) bytes c.write_any.ensures.moments

pub returns-clause-moments : goal.returns-clause-moments
returns-clause-moments g c =
    let geometry = c.args.geometry.now in
    let W = IsOfRest geometry (bitmap_sectors geometry) (empty_image geometry c.args.empty.now) in
    let bitmap : c.bitmap_sectors-bitmap.result ≡ bitmap_sectors geometry = search rules in
    let bytes = behind_slice geometry (g.D.Disk.identity c.args.disk.now).sectors c.requires.geometry c.requires.fits c.args.empty.now c.requires.empty c.bitmap_sectors-bitmap.result bitmap in
    adds_then W
    (rest_moments geometry (g.D.Disk.identity c.args.disk.now).sectors c.requires.geometry c.requires.fits c.args.empty.now c.requires.empty _ _ (search rules) bytes c.write_any.ensures.moments)
    (sync_adds W (g.met.D.Disk.reads_an_image c.write_any.new.disk) c.sync.ensures.moments)
