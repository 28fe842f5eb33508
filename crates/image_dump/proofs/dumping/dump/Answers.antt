use Rattle.std.proofs.Common.{◌≡◌, Err, Result, ◌∙◌, ap}
use Rattle.std.proofs.lemmas.Result.{IfErr-weaker, IfOk-weaker, err_from_is_err_and}
use Rattle.disk_model.specs.Disk.{last_image}
use Rattle.disk_model.specs.Moments.{content_now}
use Rattle.image_format.specs.Format.{format_of}
use Rattle.image_format.specs.declared.reading.ImageFormat.{ImageFormat}
use Rattle.image_refusal.specs.declared.call_fault.CallFault.{CallFault}
use Rattle.image_refusal.specs.declared.call_fault.CallFault.TheVariants.{Memory}
use Rattle.image_refusal.specs.declared.dump_fault.DumpFault.TheVariants.{Head}
use Rattle.image_refusal.specs.declared.open_fault.HeadFault.{HeadFault}
use Rattle.image_refusal.specs.Calls.{with_cause}
use Rattle.image_refusal.proofs.CallLemmas.{TellsCause-named, with_cause-memory}
use Rattle.dump_model.specs.Dump.{dump_of}
use Rattle.dump_model.proofs.DumpLemmas.{dump_of-format, dump_of-refused}
use Rattle.image_dump.proofs.dumping.dump.Goals as goal

pub returns-in_err-format-clause-refused : goal.returns-in_err-format-clause-refused
returns-in_err-format-clause-refused g c =
    let p = err_from_is_err_and c.from_residual.result c.from_residual.ensures.1 in
    let sectors = (g.D.Disk.identity c.args.disk.now).sectors in
    rw (p.1, p.2) (TellsCause-named Head (format_of sectors) (dump_of sectors) (g.D.Disk.moments c.args.disk.now) c.in_err-format.field-0.0
    (dump_of-refused sectors) c.in_err-format.ensures.refused)

pub returns-in_err-format-clause-memory : goal.returns-in_err-format-clause-memory
returns-in_err-format-clause-memory g c =
    let p = err_from_is_err_and c.from_residual.result c.from_residual.ensures.1 in
    let fault = c.in_err-format.field-0.0 in
    rw (p.1, p.2) (λ is.
    let same : with_cause Head fault ≡ Memory = cc in
    absurd (c.in_err-format.ensures.memory
    (ap (λ (f : CallFault HeadFault). let r : Result ImageFormat (CallFault HeadFault) = Err f in r) (with_cause-memory Head fault same))))

pub returns-clause-told : goal.returns-clause-told
returns-clause-told g c =
    let sectors = (g.D.Disk.identity c.args.disk.now).sectors in
    IfOk-weaker c.show.result _ _ (λ dump is content told.
    is content (ap content_now c.read_format.ensures.kept ∙ told)
    ∙ dump_of-format sectors (last_image content) c.in_ok-format.format (c.in_ok-format.ensures.told content told)) c.show.ensures.told

pub returns-clause-refused : goal.returns-clause-refused
returns-clause-refused g c =
    let sectors = (g.D.Disk.identity c.args.disk.now).sectors in
    IfErr-weaker c.show.result _ _ (λ fault is cause same content told.
    is cause same content (ap content_now c.read_format.ensures.kept ∙ told)
    ∙ dump_of-format sectors (last_image content) c.in_ok-format.format (c.in_ok-format.ensures.told content told)) c.show.ensures.refused
