use Rattle.std.proofs.Common.{Option, List, refl, sym, ◌∙◌, subst}
use Rattle.std.proofs.lemmas.Result.{err_from_is_err_and}
use Rattle.disk_model.specs.Disk.{last_image}
use Rattle.disk_model.specs.Identity.{DiskIdentity}
use Rattle.disk_model.specs.Moments.{HasNow}
use Rattle.hmac_tag.specs.TagMaker.{key_of}
use Rattle.image_format.specs.declared.reading.ImageFormat.{ImageFormat}
use Rattle.image_format.specs.Format.{disk_format}
use Rattle.judging_model.specs.Faults.{fault_of}
use Rattle.bitmap_device.specs.declared.parts.BitmapParts.{BitmapParts}
use Rattle.bitmap_device.specs.Device.{IsReady}
use Rattle.device_opening.specs.declared.judging.JudgedImage.{JudgedImage}
use Rattle.device_opening.specs.Changing.{HasMade, LeavesMade}
use Rattle.device_opening.specs.Judged.{HasJudged, judged_format}
use Rattle.device_opening.proofs.JudgedLemmas.{done_cause, shift}
use Rattle.device_model.specs.Mode.{Bitmap}
use Rattle.device_parts.specs.Device.{IsOfSameBlocks}
use Rattle.device_opening.proofs.OpenedMadeLemmas.{can_made, made_left, made_writes}
use Rattle.device_opening.proofs.RefusedLemmas.{judging_refuses, open_refuses}
use Rattle.device_opening.proofs.changing.open_made.Goals as goal

pub make_bitmap-requires-clause-judged : goal.make_bitmap-requires-clause-judged
make_bitmap-requires-clause-judged g c = shift (λ i x. HasJudged i.sectors c.in_ok-image.image x) (sym c.judge_found.ensures.identity) (sym c.judge_found.ensures.kept) c.in_ok-image.ensures.judged

pub returns-in_err-image-clause-refused : goal.returns-in_err-image-clause-refused
returns-in_err-image-clause-refused g c =
    let p = err_from_is_err_and c.from_residual.result c.from_residual.ensures.1 in
    let old = g.D.Disk.identity c.args.disk.now in
    rw (p.1, p.2) (judging_refuses (fault_of (key_of c.args.hash) c.args.consent old.sectors) (g.D.Disk.moments c.args.disk.now) (g.D.Disk.moments c.judge_found.new.disk) JudgedImage BitmapParts c.in_err-image.field-0.0
    c.in_err-image.ensures.refused c.judge_found.ensures.kept)

pub returns-clause-refused : goal.returns-clause-refused
returns-clause-refused g c =
    let old = g.D.Disk.identity c.args.disk.now in
    open_refuses (fault_of (key_of c.args.hash) c.args.consent old.sectors) (g.D.Disk.moments c.args.disk.now) (g.D.Disk.moments c.make_bitmap.new.disk) BitmapParts c.in_ok-device.device
    (c.in_ok-image.ensures.refused (λ e. cc) (λ e. cc))

pub returns-clause-cause : goal.returns-clause-cause
returns-clause-cause g c = done_cause _ _ _ _ _ _ c.in_ok-image.ensures.cause c.in_ok-device.ensures.cause

pub returns-in_err-device-clause-left : goal.returns-in_err-device-clause-left
returns-in_err-device-clause-left g c =
    let key = key_of c.args.hash in
    let old = g.D.Disk.identity c.args.disk.now in
    let a = g.D.Disk.moments c.args.disk.now in
    let b = g.D.Disk.moments c.make_bitmap.new.disk in
    let image = c.in_ok-image.image in
    let own : LeavesMade (disk_format key old.sectors c.args.format) a b =
    subst (λ (k : Option (List _)). LeavesMade (disk_format k old.sectors c.args.format) a b) c.in_ok-image.ensures.key
    (subst (λ (f : ImageFormat). LeavesMade (disk_format image.maker.key old.sectors f) a b) c.in_ok-image.ensures.format
    (shift (λ i x. LeavesMade (judged_format i.sectors image) x b) c.judge_found.ensures.identity c.judge_found.ensures.kept c.make_bitmap.ensures.leaves)) in
    made_left key old c.args.format a b c.requires.found own

pub returns-clause-left : goal.returns-clause-left
returns-clause-left g c =
    let key = key_of c.args.hash in
    let old = g.D.Disk.identity c.args.disk.now in
    let a = g.D.Disk.moments c.args.disk.now in
    let b = g.D.Disk.moments c.make_bitmap.new.disk in
    let image = c.in_ok-image.image in
    let own : LeavesMade (disk_format key old.sectors c.args.format) a b =
    subst (λ (k : Option (List _)). LeavesMade (disk_format k old.sectors c.args.format) a b) c.in_ok-image.ensures.key
    (subst (λ (f : ImageFormat). LeavesMade (disk_format image.maker.key old.sectors f) a b) c.in_ok-image.ensures.format
    (shift (λ i x. LeavesMade (judged_format i.sectors image) x b) c.judge_found.ensures.identity c.judge_found.ensures.kept c.make_bitmap.ensures.leaves)) in
    made_left key old c.args.format a b c.requires.found own

pub returns-in_err-device-clause-writes : goal.returns-in_err-device-clause-writes
returns-in_err-device-clause-writes g c =
    let key = key_of c.args.hash in
    let old = g.D.Disk.identity c.args.disk.now in
    let a = g.D.Disk.moments c.args.disk.now in
    let b = g.D.Disk.moments c.make_bitmap.new.disk in
    let image = c.in_ok-image.image in
    let own : LeavesMade (disk_format key old.sectors c.args.format) a b =
    subst (λ (k : Option (List _)). LeavesMade (disk_format k old.sectors c.args.format) a b) c.in_ok-image.ensures.key
    (subst (λ (f : ImageFormat). LeavesMade (disk_format image.maker.key old.sectors f) a b) c.in_ok-image.ensures.format
    (shift (λ i x. LeavesMade (judged_format i.sectors image) x b) c.judge_found.ensures.identity c.judge_found.ensures.kept c.make_bitmap.ensures.leaves)) in
    made_writes key old c.args.format a b c.requires.found own

pub returns-clause-writes : goal.returns-clause-writes
returns-clause-writes g c =
    let key = key_of c.args.hash in
    let old = g.D.Disk.identity c.args.disk.now in
    let a = g.D.Disk.moments c.args.disk.now in
    let b = g.D.Disk.moments c.make_bitmap.new.disk in
    let image = c.in_ok-image.image in
    let own : LeavesMade (disk_format key old.sectors c.args.format) a b =
    subst (λ (k : Option (List _)). LeavesMade (disk_format k old.sectors c.args.format) a b) c.in_ok-image.ensures.key
    (subst (λ (f : ImageFormat). LeavesMade (disk_format image.maker.key old.sectors f) a b) c.in_ok-image.ensures.format
    (shift (λ i x. LeavesMade (judged_format i.sectors image) x b) c.judge_found.ensures.identity c.judge_found.ensures.kept c.make_bitmap.ensures.leaves)) in
    made_writes key old c.args.format a b c.requires.found own

pub returns-clause-opened : goal.returns-clause-opened
returns-clause-opened g c =
    let key = key_of c.args.hash in
    let old = g.D.Disk.identity c.args.disk.now in
    let a = g.D.Disk.moments c.args.disk.now in
    let b = g.D.Disk.moments c.make_bitmap.new.disk in
    let image = c.in_ok-image.image in
    let device = c.in_ok-device.device in
    let there = c.judge_found.ensures.identity in
    let kept = c.judge_found.ensures.kept in
    record {
      device =
          subst (λ (k : Option (List _)). HasMade k old.sectors device a b) c.in_ok-image.ensures.key
          (shift (λ i x. HasMade image.maker.key i.sectors device x b) there kept c.in_ok-device.ensures.opened);
      blocks =
          subst (λ (k : Option (List _)). HasNow (λ start. HasNow (λ made. IsOfSameBlocks Bitmap k old.sectors (last_image start) (last_image made)) b) a) c.in_ok-image.ensures.key
          (shift (λ i x. HasNow (λ start. HasNow (λ made. IsOfSameBlocks Bitmap image.maker.key i.sectors (last_image start) (last_image made)) b) x) there kept c.in_ok-device.ensures.blocks);
      ready = subst (λ (i : DiskIdentity). IsReady device.parts device.regions i b) (c.make_bitmap.ensures.identity ∙ there) c.in_ok-device.ensures.ready;
      asked_ = refl;
      requests = c.in_ok-device.ensures.requests;
      can = λ x told. can_made key old c.args.format a c.requires.found image c.in_ok-image.ensures.judged c.in_ok-image.ensures.key x told;
    }
