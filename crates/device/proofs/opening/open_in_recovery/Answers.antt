use Rattle.std.proofs.Common.{sym}
use Rattle.std.proofs.lemmas.Result.{err_from_is_err_and}
use Rattle.disk_model.proofs.MomentsLemmas.{EachMoment-kept}
use Rattle.hmac_tag.specs.TagMaker.{key_of}
use Rattle.device_parts.specs.declared.parts.Parts.{Parts}
use Rattle.device.specs.declared.opening.OpenMode.TheVariants.{Recovery}
use Rattle.device.proofs.OpeningLemmas.{opened_recovery, refused}
use Rattle.device.proofs.opening.open_in_recovery.Goals as goal

pub returns-in_err-common-clause-refused : goal.returns-in_err-common-clause-refused
returns-in_err-common-clause-refused g c =
    let p = err_from_is_err_and c.from_residual.result c.from_residual.ensures.1 in
    let old = c.args.disk.now in
    rw (p.1, p.2) (refused Parts Recovery (key_of c.args.hash) (g.D.Disk.identity old) (g.D.Disk.moments old)
    (g.D.Disk.moments c.open_recovery.new.disk) c.in_err-common.field-0.0 c.in_err-common.ensures.refused)

pub returns-clause-opened : goal.returns-clause-opened
returns-clause-opened g c =
    let old = c.args.disk.now in
    opened_recovery (key_of c.args.hash) (g.D.Disk.identity old) (g.D.Disk.moments old) (g.D.Disk.moments c.open_recovery.new.disk)
    c.in_ok-common.common c.in_ok-common.ensures.opened

pub returns-clause-cause : goal.returns-clause-cause
returns-clause-cause g c =
    let cause = c.in_ok-common.ensures.cause in
    record { later = cause.later; failed = λ e. absurd cc; passed = λ _. cause.passed (λ e. cc) }

pub returns-in_err-common-clause-leaves : goal.returns-in_err-common-clause-leaves
returns-in_err-common-clause-leaves g c = record {
  identity = c.open_recovery.ensures.identity;
  left = λ can. record { opens = EachMoment-kept _ c.open_recovery.ensures.kept; left = EachMoment-kept _ c.open_recovery.ensures.kept };
  refused = c.in_err-common.ensures.refused.judged;
  writes = c.open_recovery.ensures.kept;
}

pub returns-clause-leaves : goal.returns-clause-leaves
returns-clause-leaves g c = record {
  identity = c.open_recovery.ensures.identity;
  left = λ can. record { opens = EachMoment-kept _ c.open_recovery.ensures.kept; left = EachMoment-kept _ c.open_recovery.ensures.kept };
  refused = c.in_ok-common.ensures.refused.judged;
  writes = c.open_recovery.ensures.kept;
}

pub returns-clause-accepted : goal.returns-clause-accepted
returns-clause-accepted g c start told = sym (c.in_ok-common.ensures.refused.told (λ e. cc) (λ e. cc) start told)
