use Rattle.std.proofs.Common.{rules}
use Rattle.std.proofs.lemmas.Result.{err_from_is_err_and}
use Rattle.disk_model.specs.Disk.{last_image}
use Rattle.image_format.proofs.FormatLemmas.{format_of-refused, read_now}
use Rattle.image_format.proofs.reading.read_format.Goals as goal

pub returns-clause-reads : goal.returns-clause-reads
returns-clause-reads g c key content told =
    let disk = c.args.disk.now in
    read_now key _ _ content (search rules)
    (c.in_ok-fields.ensures.told content told)
    (λ sector low. g.met.D.Disk.whole_sectors disk content sector (last_image content sector) told low
    (g.met.D.Disk.reads_an_image disk content told sector))

pub returns-in_err-fields-clause-refused : goal.returns-in_err-fields-clause-refused
returns-in_err-fields-clause-refused g c =
    let p = err_from_is_err_and c.from_residual.result c.from_residual.ensures.1 in
    let sectors = (g.D.Disk.identity c.args.disk.now).sectors in
    rw (p.1, p.2) (λ cause is content told.
    format_of-refused sectors (last_image content) cause (c.in_err-fields.ensures.refused cause is content told))
