use Rattle.std.proofs.Common.{sym}
use Rattle.std.proofs.lemmas.Result.{err_from_is_err_and}
use Rattle.hmac_tag.specs.TagMaker.{key_of}
use Rattle.direct_device.specs.declared.parts.DirectParts.{DirectParts}
use Rattle.device.specs.declared.opening.OpenMode.TheVariants.{Direct}
use Rattle.device.proofs.OpeningLemmas.{as_journal, opened_direct, refused}
use Rattle.device.proofs.opening.open_in_direct.Goals as goal

pub returns-in_err-opened-clause-refused : goal.returns-in_err-opened-clause-refused
returns-in_err-opened-clause-refused g c =
    let p = err_from_is_err_and c.from_residual.result c.from_residual.ensures.1 in
    let old = c.args.disk.now in
    rw (p.1, p.2) (refused DirectParts (Direct c.args.consent) (key_of c.args.hash) (g.D.Disk.identity old) (g.D.Disk.moments old)
    (g.D.Disk.moments c.open_direct.new.disk) c.in_err-opened.field-0.0 c.in_err-opened.ensures.refused)

pub returns-clause-opened : goal.returns-clause-opened
returns-clause-opened g c =
    let old = c.args.disk.now in
    let done = c.in_ok-opened.ensures in
    opened_direct (key_of c.args.hash) (g.D.Disk.identity old) (g.D.Disk.moments old) (g.D.Disk.moments c.open_direct.new.disk)
    c.in_ok-opened.opened (g.met.D.Disk.reads_an_image c.open_direct.new.disk) done.opened done.empty (as_journal (key_of c.args.hash) (g.D.Disk.identity old).sectors (g.D.Disk.moments old) (g.D.Disk.moments c.open_direct.new.disk) c.open_direct.ensures.writes)

pub returns-clause-settled : goal.returns-clause-settled
returns-clause-settled g c = c.in_ok-opened.ensures.empty.settled

pub returns-clause-cause : goal.returns-clause-cause
returns-clause-cause g c =
    let cause = c.in_ok-opened.ensures.cause in
    record { later = cause.later; failed = λ e. absurd cc; passed = λ _. cause.passed (λ e. cc) }

pub returns-in_err-opened-clause-leaves : goal.returns-in_err-opened-clause-leaves
returns-in_err-opened-clause-leaves g c = record {
  identity = c.open_direct.ensures.identity;
  left = c.open_direct.ensures.left;
  refused = c.in_err-opened.ensures.refused.judged;
  writes = c.open_direct.ensures.writes;
}

pub returns-clause-leaves : goal.returns-clause-leaves
returns-clause-leaves g c = record {
  identity = c.open_direct.ensures.identity;
  left = c.open_direct.ensures.left;
  refused = c.in_ok-opened.ensures.refused.judged;
  writes = c.open_direct.ensures.writes;
}

pub returns-clause-accepted : goal.returns-clause-accepted
returns-clause-accepted g c start told = sym (c.in_ok-opened.ensures.refused.told (λ e. cc) (λ e. cc) start told)
