use Rattle.std.proofs.Common.{List, Option, subst}
use Rattle.std.proofs.lemmas.Result.{err_from_is_err_and}
use Rattle.device_model.specs.Mode as Model
use Rattle.hmac_tag.specs.TagMaker.{key_of}
use Rattle.judging_model.specs.Faults.{fault_of}
use Rattle.bitmap_device.specs.declared.parts.BitmapParts.{BitmapParts}
use Rattle.device_opening.specs.Opening.{LeavesOpenable}
use Rattle.device_opening.proofs.JudgedLemmas.{done_cause, shift}
use Rattle.device_opening.proofs.RefusedLemmas.{disk_refuses, open_refuses}
use Rattle.device_opening.proofs.bitmap.open_found.Goals as goal

pub returns-clause-refused : goal.returns-clause-refused
returns-clause-refused g c =
    open_refuses (fault_of (key_of c.args.hash) c.args.consent (g.D.Disk.identity c.args.disk.now).sectors) (g.D.Disk.moments c.args.disk.now) (g.D.Disk.moments c.open_judged.new.disk)
    BitmapParts c.in_ok-device.device (c.in_ok-image.ensures.refused (λ e. cc) (λ e. cc))

pub returns-clause-cause : goal.returns-clause-cause
returns-clause-cause g c = done_cause _ _ _ _ _ _ c.in_ok-image.ensures.cause c.in_ok-device.ensures.cause

pub returns-in_err-device-clause-left : goal.returns-in_err-device-clause-left
returns-in_err-device-clause-left g c =
    let b = g.D.Disk.moments c.open_judged.new.disk in
    subst (λ (k : Option (List _)). LeavesOpenable Model.Bitmap k (g.D.Disk.identity c.args.disk.now).sectors (g.D.Disk.moments c.args.disk.now) b) c.in_ok-image.ensures.key
    (shift (λ i x. LeavesOpenable Model.Bitmap c.in_ok-image.image.maker.key i.sectors x b) c.judge_bitmap.ensures.identity c.judge_bitmap.ensures.kept c.open_judged.ensures.left)

pub returns-clause-left : goal.returns-clause-left
returns-clause-left g c =
    let b = g.D.Disk.moments c.open_judged.new.disk in
    subst (λ (k : Option (List _)). LeavesOpenable Model.Bitmap k (g.D.Disk.identity c.args.disk.now).sectors (g.D.Disk.moments c.args.disk.now) b) c.in_ok-image.ensures.key
    (shift (λ i x. LeavesOpenable Model.Bitmap c.in_ok-image.image.maker.key i.sectors x b) c.judge_bitmap.ensures.identity c.judge_bitmap.ensures.kept c.open_judged.ensures.left)

pub returns-in_err-device-clause-refused : goal.returns-in_err-device-clause-refused
returns-in_err-device-clause-refused g c =
    let p = err_from_is_err_and c.from_residual-in_err-device.result c.from_residual-in_err-device.ensures.1 in
    rw (p.1, p.2) (disk_refuses (fault_of (key_of c.args.hash) c.args.consent (g.D.Disk.identity c.args.disk.now).sectors) (g.D.Disk.moments c.args.disk.now) (g.D.Disk.moments c.open_judged.new.disk) BitmapParts (c.in_ok-image.ensures.refused (λ e. cc) (λ e. cc)))
