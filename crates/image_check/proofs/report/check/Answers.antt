use Rattle.std.proofs.Common.{◌≡◌, ap, subst, ◌∙◌}
use Rattle.disk_model.specs.Disk.{last_image}
use Rattle.disk_model.specs.Identity.{DiskIdentity}
use Rattle.disk_model.specs.Moments.{HasNow, content_now}
use Rattle.hmac_tag.specs.TagMaker.{key_of}
use Rattle.image_format.specs.declared.reading.ImageFormat.{ImageFormat}
use Rattle.place_model.specs.Format.{format_on}
use Rattle.check_model.specs.declared.report.Report.{Report}
use Rattle.check_model.specs.Report.{IsReportOf}
use Rattle.image_check.specs.Checked.{awaiting_at}
use Rattle.image_check.proofs.CheckedLemmas.{awaiting_same, report_is}
use Rattle.image_check.proofs.report.check.Goals as goal

pub returns-clause-report : goal.returns-clause-report
returns-clause-report g c x told =
    let image = c.in_ok-image.image in
    let listed = c.list_bad.new.image in
    let report : Report = record { blocks = c.blocks-2.result; awaiting = c.in_ok-awaiting.awaiting; bad = c.in_ok-bad.bad } in
    let blocks = c.blocks-2.ensures
    ∙ ap (λ (f : ImageFormat). f.geometry.blocks) c.count_awaiting.ensures.same.format
    ∙ ap (λ (f : ImageFormat). f.geometry.blocks) c.list_bad.ensures.same.format in
    let awaiting : HasNow (λ y. report.awaiting ≡ awaiting_at image (g.D.Disk.identity c.open.new.disk).sectors (last_image y)) (g.D.Disk.moments c.open.new.disk) =
    λ y now.
    c.in_ok-awaiting.ensures.awaiting y (ap content_now c.list_bad.ensures.kept ∙ now)
    ∙ ap (λ (d : DiskIdentity). awaiting_at listed d.sectors (last_image y)) c.list_bad.ensures.identity
    ∙ awaiting_same image listed (g.D.Disk.identity c.open.new.disk).sectors (last_image y) c.list_bad.ensures.same in
    subst (λ (d : DiskIdentity). IsReportOf c.args.what (format_on (key_of c.args.hash) d.sectors (last_image x)) (last_image x) report) c.open.ensures.identity
    (report_is c.args.what (key_of c.args.hash) c.in_ok-image.image (g.D.Disk.identity c.open.new.disk) (g.D.Disk.moments c.open.new.disk) report c.in_ok-image.ensures.image
    c.in_ok-image.ensures.what c.in_ok-image.ensures.key blocks awaiting c.in_ok-bad.ensures.bad x (ap content_now c.open.ensures.kept ∙ told))
