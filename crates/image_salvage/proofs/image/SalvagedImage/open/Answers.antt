use Rattle.std.proofs.Common.{refl}
use Rattle.std.proofs.lemmas.Result.{err_from_is_err_and}
use Rattle.disk_model.specs.Disk.{last_image}
use Rattle.hmac_tag.specs.TagMaker.{key_of}
use Rattle.image_salvage.proofs.RefusingLemmas.{head_told, no_fault}
use Rattle.image_salvage.proofs.SalvagedLemmas.{opened_salvage}
use Rattle.image_salvage.proofs.image.SalvagedImage.open.Goals as goal

pub returns-in_err-format-clause-refused : goal.returns-in_err-format-clause-refused
returns-in_err-format-clause-refused g c =
    let p = err_from_is_err_and c.from_residual.result c.from_residual.ensures.1 in
    rw (p.1, p.2) (head_told (g.D.Disk.identity c.args.disk.now).sectors (g.D.Disk.moments c.args.disk.now) c.in_err-format.field-0.0
    c.in_err-format.ensures.refused)

pub returns-clause-image : goal.returns-clause-image
returns-clause-image g c =
    opened_salvage _ (key_of c.args.hash) (g.D.Disk.identity c.args.disk.now) (g.D.Disk.identity c.read_format.new.disk) (g.D.Disk.moments c.args.disk.now) (g.D.Disk.moments c.read_format.new.disk)
    c.read_format.ensures.identity c.read_format.ensures.kept c.requires c.in_ok-format.ensures.format (c.in_ok-format.ensures.reads (key_of c.args.hash))
    c.tag_maker-maker.ensures refl c.in_ok-tags.ensures c.in_ok-blocks.ensures

pub returns-clause-accepted : goal.returns-clause-accepted
returns-clause-accepted g c x told =
    no_fault (g.D.Disk.identity c.args.disk.now).sectors (last_image x) c.in_ok-format.format (c.in_ok-format.ensures.told x told)
