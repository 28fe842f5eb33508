use Rattle.std.proofs.Common.{sym, ◌∙◌, ap, rules}
use Rattle.std.proofs.lemmas.Result.{err_from_is_err_and}
use Rattle.disk_model.proofs.DiskLemmas.{Reads-one}
use Rattle.disk_model.specs.Disk.{last_image}
use Rattle.image_model.specs.declared.super_fields.SuperFault.TheVariants.{Magic}
use Rattle.image_refusal.specs.declared.open_fault.HeadFault.TheVariants.{Super}
use Rattle.image_refusal.proofs.CallLemmas.{TellsCause-refused}
use Rattle.image_format.specs.Format.{fields_of, told_fields}
use Rattle.image_format.proofs.FormatLemmas.{fields_of-none, fields_of-read}
use Rattle.image_format.proofs.reading.read_fields.Goals as goal

pub returns-then-sectors-eq0-clause-refused : goal.returns-then-sectors-eq0-clause-refused
returns-then-sectors-eq0-clause-refused g c =
    let sectors = (g.D.Disk.identity c.args.disk.now).sectors in
    TellsCause-refused (fields_of sectors) (g.D.Disk.moments c.args.disk.now) (Super Magic)
    (λ content told. fields_of-none sectors (last_image content) (sym c.sectors.ensures ∙ c.if-sectors-eq0.true))

pub returns-in_err-fields-clause-refused : goal.returns-in_err-fields-clause-refused
returns-in_err-fields-clause-refused g c =
    let p = err_from_is_err_and c.from_residual-in_err-fields.result c.from_residual-in_err-fields.ensures.1 in
    let sectors = (g.D.Disk.identity c.args.disk.now).sectors in
    rw (p.1, p.2) (TellsCause-refused (fields_of sectors) (g.D.Disk.moments c.args.disk.now) (Super c.in_err-fields.field-0.0)
    (λ content told.
    let read = Reads-one 0 c.read_run.new.buffer content (search rules) (c.in_ok-read_run.ensures.read content told) in
    ap told_fields c.in_err-fields.ensures.told
    ∙ fields_of-read sectors c.read_run.new.buffer (last_image content) (λ none. c.if-sectors-eq0.false (c.sectors.ensures ∙ none)) read))

pub returns-clause-told : goal.returns-clause-told
returns-clause-told g c content told =
    let is = Reads-one 0 c.read_run.new.buffer content (search rules) (c.in_ok-read_run.ensures.read content told) in
    ap told_fields c.in_ok-fields.ensures.told
    ∙ fields_of-read _ c.read_run.new.buffer (last_image content) (λ none. c.if-sectors-eq0.false (c.sectors.ensures ∙ none)) is
