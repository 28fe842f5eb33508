use Rattle.std.proofs.Common.{sym}
use Rattle.std.proofs.lemmas.Result.{err_from_is_err_and}
use Rattle.hmac_tag.specs.TagMaker.{key_of}
use Rattle.bitmap_device.specs.declared.parts.BitmapParts.{BitmapParts}
use Rattle.device.specs.declared.opening.OpenMode.TheVariants.{Bitmap}
use Rattle.device.proofs.OpeningLemmas.{opened_bitmap, refused}
use Rattle.device.proofs.opening.open_in_bitmap.Goals as goal

pub returns-in_err-opened-clause-refused : goal.returns-in_err-opened-clause-refused
returns-in_err-opened-clause-refused g c =
    let p = err_from_is_err_and c.from_residual.result c.from_residual.ensures.1 in
    let old = c.args.disk.now in
    rw (p.1, p.2) (refused BitmapParts (Bitmap c.args.consent) (key_of c.args.hash) (g.D.Disk.identity old) (g.D.Disk.moments old)
    (g.D.Disk.moments c.open_bitmap.new.disk) c.in_err-opened.field-0.0 c.in_err-opened.ensures.refused)

pub returns-clause-opened : goal.returns-clause-opened
returns-clause-opened g c =
    let old = c.args.disk.now in
    opened_bitmap (key_of c.args.hash) (g.D.Disk.identity old) (g.D.Disk.moments old) (g.D.Disk.moments c.open_bitmap.new.disk)
    c.in_ok-opened.opened c.in_ok-opened.ensures.opened

pub returns-clause-cause : goal.returns-clause-cause
returns-clause-cause g c =
    let cause = c.in_ok-opened.ensures.cause in
    record { later = cause.later; failed = λ e. absurd cc; passed = λ _. cause.passed (λ e. cc) }

pub returns-in_err-opened-clause-leaves : goal.returns-in_err-opened-clause-leaves
returns-in_err-opened-clause-leaves g c = record {
  identity = c.open_bitmap.ensures.identity;
  left = c.open_bitmap.ensures.left;
  refused = c.in_err-opened.ensures.refused.judged;
  writes = c.open_bitmap.ensures.writes;
}

pub returns-clause-leaves : goal.returns-clause-leaves
returns-clause-leaves g c = record {
  identity = c.open_bitmap.ensures.identity;
  left = c.open_bitmap.ensures.left;
  refused = c.in_ok-opened.ensures.refused.judged;
  writes = c.open_bitmap.ensures.writes;
}

pub returns-clause-accepted : goal.returns-clause-accepted
returns-clause-accepted g c start told = sym (c.in_ok-opened.ensures.refused.told (λ e. cc) (λ e. cc) start told)
