use Rattle.std.proofs.Common.{List, sym, ◌∙◌, subst}
use Rattle.std.proofs.lemmas.Result.{err_from_is_err_and}
use Rattle.disk_model.specs.Disk.{Content}
use Rattle.disk_model.specs.Identity.{DiskIdentity}
use Rattle.disk_model.specs.Moments.{EachSince}
use Rattle.disk_model.proofs.MomentsLemmas.{EachMoment-kept}
use Rattle.hmac_tag.specs.TagMaker.{key_of}
use Rattle.image_format.specs.declared.reading.ImageFormat.{ImageFormat}
use Rattle.judging_model.specs.Faults.{fault_of}
use Rattle.direct_device.specs.declared.parts.DirectParts.{DirectParts}
use Rattle.device_opening.specs.declared.judging.JudgedImage.{JudgedImage}
use Rattle.device_opening.specs.DirectOpening.{HasOpenOn}
use Rattle.place_model.specs.EmptyJournal.{KeepsEmpty}
use Rattle.device_opening.specs.Judged.{HasJudged, judged_format}
use Rattle.device_opening.specs.Opening.{IsUnasked, WritesRecovery}
use Rattle.device_opening.proofs.DirectLemmas.{has_opened, leaves_empty, opening_left}
use Rattle.device_opening.proofs.JudgedLemmas.{done_cause, own_leaves, shift}
use Rattle.device_opening.proofs.RefusedLemmas.{disk_refuses, judging_refuses, memory_refuses, open_refuses}
use Rattle.device_opening.proofs.direct.open_found.Goals as goal

pub open_judged-requires-clause-judged : goal.open_judged-requires-clause-judged
open_judged-requires-clause-judged g c = shift (λ i x. HasJudged i.sectors c.in_ok-image.image x) (sym c.judge_found.ensures.identity) (sym c.judge_found.ensures.kept) c.in_ok-image.ensures.judged

pub returns-in_err-image-clause-refused : goal.returns-in_err-image-clause-refused
returns-in_err-image-clause-refused g c =
    let p = err_from_is_err_and c.from_residual.result c.from_residual.ensures.1 in
    rw (p.1, p.2) (judging_refuses (fault_of (key_of c.args.hash) c.args.consent (g.D.Disk.identity c.args.disk.now).sectors) (g.D.Disk.moments c.args.disk.now) (g.D.Disk.moments c.judge_found.new.disk) JudgedImage DirectParts c.in_err-image.field-0.0
    c.in_err-image.ensures.refused c.judge_found.ensures.kept)

pub returns-in_err-room-clause-refused : goal.returns-in_err-room-clause-refused
returns-in_err-room-clause-refused g c =
    let p = err_from_is_err_and c.from_residual-in_err-room.result c.from_residual-in_err-room.ensures.1 in
    rw (p.1, p.2) (memory_refuses (fault_of (key_of c.args.hash) c.args.consent (g.D.Disk.identity c.args.disk.now).sectors) (g.D.Disk.moments c.args.disk.now) (g.D.Disk.moments c.judge_found.new.disk) DirectParts c.judge_found.ensures.kept)

pub returns-in_err-device-clause-refused : goal.returns-in_err-device-clause-refused
returns-in_err-device-clause-refused g c =
    let p = err_from_is_err_and c.from_residual-in_err-device.result c.from_residual-in_err-device.ensures.1 in
    rw (p.1, p.2) (disk_refuses (fault_of (key_of c.args.hash) c.args.consent (g.D.Disk.identity c.args.disk.now).sectors) (g.D.Disk.moments c.args.disk.now) (g.D.Disk.moments c.open_judged.new.disk) DirectParts (c.in_ok-image.ensures.refused (λ e. cc) (λ e. cc)))

pub returns-clause-refused : goal.returns-clause-refused
returns-clause-refused g c =
    open_refuses (fault_of (key_of c.args.hash) c.args.consent (g.D.Disk.identity c.args.disk.now).sectors) (g.D.Disk.moments c.args.disk.now) (g.D.Disk.moments c.open_judged.new.disk) DirectParts c.in_ok-device.device (c.in_ok-image.ensures.refused (λ e. cc) (λ e. cc))

pub returns-clause-cause : goal.returns-clause-cause
returns-clause-cause g c = done_cause _ _ _ _ _ _ c.in_ok-image.ensures.cause c.in_ok-device.ensures.cause

pub returns-in_err-image-clause-left : goal.returns-in_err-image-clause-left
returns-in_err-image-clause-left g c can = record { opens = EachMoment-kept _ c.judge_found.ensures.kept; left = EachMoment-kept _ c.judge_found.ensures.kept }

pub returns-in_err-room-clause-left : goal.returns-in_err-room-clause-left
returns-in_err-room-clause-left g c can = record { opens = EachMoment-kept _ c.judge_found.ensures.kept; left = EachMoment-kept _ c.judge_found.ensures.kept }

pub returns-in_err-device-clause-left : goal.returns-in_err-device-clause-left
returns-in_err-device-clause-left g c can =
    let key = key_of c.args.hash in
    let old = g.D.Disk.identity c.args.disk.now in
    let a = g.D.Disk.moments c.args.disk.now in
    let image = c.in_ok-image.image in
    let judged = c.in_ok-image.ensures.judged in
    let same = c.in_ok-image.ensures.key in
    let identity = c.judge_found.ensures.identity in
    let kept = c.judge_found.ensures.kept in
    opening_left key old image a judged same (own_leaves key old image a judged same identity kept c.open_judged.ensures.leaves)

pub returns-clause-left : goal.returns-clause-left
returns-clause-left g c can =
    let key = key_of c.args.hash in
    let old = g.D.Disk.identity c.args.disk.now in
    let a = g.D.Disk.moments c.args.disk.now in
    let image = c.in_ok-image.image in
    let judged = c.in_ok-image.ensures.judged in
    let same = c.in_ok-image.ensures.key in
    let identity = c.judge_found.ensures.identity in
    let kept = c.judge_found.ensures.kept in
    opening_left key old image a judged same (own_leaves key old image a judged same identity kept c.open_judged.ensures.leaves)

pub returns-clause-opened : goal.returns-clause-opened
returns-clause-opened g c =
    let key = key_of c.args.hash in
    let old = g.D.Disk.identity c.args.disk.now in
    let a = g.D.Disk.moments c.args.disk.now in
    let image = c.in_ok-image.image in
    let judged = c.in_ok-image.ensures.judged in
    let same = c.in_ok-image.ensures.key in
    let identity = c.judge_found.ensures.identity in
    let kept = c.judge_found.ensures.kept in
    let new = g.D.Disk.moments c.open_judged.new.disk in
    let device = c.in_ok-device.device in
    has_opened key old image a judged same device (shift (λ i x. HasOpenOn (judged_format i.sectors image) device x new) identity kept c.in_ok-device.ensures.opened)
    (subst (λ (i : DiskIdentity). IsUnasked device.parts device.recalculation i new) (c.open_judged.ensures.identity ∙ identity) c.in_ok-device.ensures.unasked)

pub returns-clause-empty : goal.returns-clause-empty
returns-clause-empty g c =
    let key = key_of c.args.hash in
    let old = g.D.Disk.identity c.args.disk.now in
    let a = g.D.Disk.moments c.args.disk.now in
    let image = c.in_ok-image.image in
    let judged = c.in_ok-image.ensures.judged in
    let same = c.in_ok-image.ensures.key in
    let identity = c.judge_found.ensures.identity in
    let kept = c.judge_found.ensures.kept in
    let new = g.D.Disk.moments c.open_judged.new.disk in
    let device = c.in_ok-device.device in
    leaves_empty key old image a judged same device (shift (λ i x. HasOpenOn (judged_format i.sectors image) device x new) identity kept c.in_ok-device.ensures.opened)
    (own_leaves key old image a judged same identity kept c.open_judged.ensures.leaves)

pub returns-in_err-device-clause-writes : goal.returns-in_err-device-clause-writes
returns-in_err-device-clause-writes g c =
    let image = c.in_ok-image.image in
    subst (λ (f : ImageFormat). WritesRecovery f.geometry (g.D.Disk.moments c.args.disk.now) (g.D.Disk.moments c.open_judged.new.disk)) c.in_ok-image.ensures.format
    (own_leaves (key_of c.args.hash) (g.D.Disk.identity c.args.disk.now) image (g.D.Disk.moments c.args.disk.now) c.in_ok-image.ensures.judged c.in_ok-image.ensures.key c.judge_found.ensures.identity c.judge_found.ensures.kept
    c.open_judged.ensures.leaves).writes

pub returns-clause-writes : goal.returns-clause-writes
returns-clause-writes g c =
    let image = c.in_ok-image.image in
    subst (λ (f : ImageFormat). WritesRecovery f.geometry (g.D.Disk.moments c.args.disk.now) (g.D.Disk.moments c.open_judged.new.disk)) c.in_ok-image.ensures.format
    (own_leaves (key_of c.args.hash) (g.D.Disk.identity c.args.disk.now) image (g.D.Disk.moments c.args.disk.now) c.in_ok-image.ensures.judged c.in_ok-image.ensures.key c.judge_found.ensures.identity c.judge_found.ensures.kept
    c.open_judged.ensures.leaves).writes

pub returns-in_err-device-clause-keeps : goal.returns-in_err-device-clause-keeps
returns-in_err-device-clause-keeps g c =
    subst (λ (f : ImageFormat). EachSince (KeepsEmpty f.geometry) (g.D.Disk.moments c.args.disk.now) (g.D.Disk.moments c.open_judged.new.disk)) c.in_ok-image.ensures.format
    (subst (λ (x : List Content). EachSince (KeepsEmpty c.in_ok-image.image.format.geometry) x (g.D.Disk.moments c.open_judged.new.disk)) c.judge_found.ensures.kept c.open_judged.ensures.keeps)

pub returns-clause-keeps : goal.returns-clause-keeps
returns-clause-keeps g c =
    subst (λ (f : ImageFormat). EachSince (KeepsEmpty f.geometry) (g.D.Disk.moments c.args.disk.now) (g.D.Disk.moments c.open_judged.new.disk)) c.in_ok-image.ensures.format
    (subst (λ (x : List Content). EachSince (KeepsEmpty c.in_ok-image.image.format.geometry) x (g.D.Disk.moments c.open_judged.new.disk)) c.judge_found.ensures.kept c.open_judged.ensures.keeps)
