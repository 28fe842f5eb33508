use Rattle.std.proofs.Common.{ℕ, ap, sym, subst, ◌∙◌}
use Rattle.std.proofs.lemmas.Result.{err_from_is_err_and}
use Rattle.disk_model.specs.Identity.{DiskIdentity}
use Rattle.disk_model.specs.Moments.{content_now}
use Rattle.hmac_tag.specs.TagMaker.{key_of}
use Rattle.image_format.specs.Format.{IsReadNow}
use Rattle.image_check.specs.Checked.{Checked}
use Rattle.image_check.proofs.ReadingLemmas.{head_told}
use Rattle.image_check.proofs.checked_image.CheckedImage.open.Goals as goal

pub in_format-requires-clause-reads : goal.in_format-requires-clause-reads
in_format-requires-clause-reads g c x told =
    subst (λ (n : ℕ). IsReadNow (key_of c.args.hash) n c.in_ok-format.format x) (ap (λ (d : DiskIdentity). d.sectors) (sym c.read_format.ensures.identity))
    (c.in_ok-format.ensures.reads (key_of c.args.hash) x (ap content_now (sym c.read_format.ensures.kept) ∙ told))

pub returns-in_err-format-clause-refused : goal.returns-in_err-format-clause-refused
returns-in_err-format-clause-refused g c =
    let p = err_from_is_err_and c.from_residual.result c.from_residual.ensures.1 in
    rw (p.1, p.2) (head_told Checked c.args.what (key_of c.args.hash) (g.D.Disk.identity c.args.disk.now).sectors (g.D.Disk.moments c.args.disk.now)
    c.in_err-format.field-0.0 c.in_err-format.ensures.refused)
