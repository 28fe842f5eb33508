use Rattle.std.proofs.Common.{rules, ◌≡◌, ◌*◌, subst, List}
use Rattle.disk_model.specs.Disk.{AddsSome}
use Rattle.disk_model.specs.Moments.{EachSince}
use Rattle.disk_model.proofs.MomentsLemmas.{adds_then, sync_adds, write_adds}
use Rattle.image_model.specs.Geometry.{bitmap_sectors}
use Rattle.image_model.specs.Sectors.{zero_bytes}
use Rattle.change_model.specs.Change.{IsOfZeros}
use Rattle.mode_change.proofs.StepLemmas.{is_run, zero_run}
use Rattle.mode_change.proofs.zeroing.zero_bitmap.Goals as goal

pub write_run-requires-clause-run : goal.write_run-requires-clause-run
write_run-requires-clause-run g c =
    is_run c.args.geometry.now (g.D.Disk.identity c.args.disk.now).sectors c.section_at.result _ c.requires.geometry c.requires.fits (search rules) (search rules)

pub returns-in_err-write_run-clause-moments : goal.returns-in_err-write_run-clause-moments
returns-in_err-write_run-clause-moments g c =
    let bitmap = bitmap_sectors c.args.geometry.now in
    let zeros : c.fill.new.self ≡ zero_bytes (512 * bitmap) = search rules in
    let at : c.section_at.result ≡ 8 = search rules in
    let added = subst (λ (n : _). EachSince (AddsSome n c.fill.new.self) (g.D.Disk.moments c.args.disk.now) (g.D.Disk.moments c.write_run.new.self)) at c.write_run.ensures.moments in
    let written = subst (λ (xs : List _). EachSince (AddsSome 8 xs) (g.D.Disk.moments c.args.disk.now) (g.D.Disk.moments c.write_run.new.self)) zeros added in
    write_adds (IsOfZeros c.args.geometry.now bitmap) 8 (zero_bytes (512 * bitmap)) written (zero_run c.args.geometry.now (g.D.Disk.identity c.args.disk.now).sectors bitmap c.requires.geometry c.requires.fits)

pub returns-clause-moments : goal.returns-clause-moments
returns-clause-moments g c =
    let bitmap = bitmap_sectors c.args.geometry.now in
    let zeros : c.fill.new.self ≡ zero_bytes (512 * bitmap) = search rules in
    let at : c.section_at.result ≡ 8 = search rules in
    let added = subst (λ (n : _). EachSince (AddsSome n c.fill.new.self) (g.D.Disk.moments c.args.disk.now) (g.D.Disk.moments c.write_run.new.self)) at c.write_run.ensures.moments in
    let written = subst (λ (xs : List _). EachSince (AddsSome 8 xs) (g.D.Disk.moments c.args.disk.now) (g.D.Disk.moments c.write_run.new.self)) zeros added in
    adds_then (IsOfZeros c.args.geometry.now bitmap)
    (write_adds (IsOfZeros c.args.geometry.now bitmap) 8 (zero_bytes (512 * bitmap)) written (zero_run c.args.geometry.now (g.D.Disk.identity c.args.disk.now).sectors bitmap c.requires.geometry c.requires.fits))
    (sync_adds (IsOfZeros c.args.geometry.now bitmap) (g.met.D.Disk.reads_an_image c.write_run.new.self) c.sync.ensures.moments)
