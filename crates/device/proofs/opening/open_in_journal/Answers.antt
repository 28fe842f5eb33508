use Rattle.std.proofs.Common.{sym}
use Rattle.std.proofs.lemmas.Result.{err_from_is_err_and}
use Rattle.hmac_tag.specs.TagMaker.{key_of}
use Rattle.journal_device.specs.declared.parts.JournalParts.{JournalParts}
use Rattle.device.specs.declared.opening.OpenMode.TheVariants.{Journal}
use Rattle.device.proofs.OpeningLemmas.{opened_journal, refused}
use Rattle.device.proofs.opening.open_in_journal.Goals as goal

pub returns-in_err-opened-clause-refused : goal.returns-in_err-opened-clause-refused
returns-in_err-opened-clause-refused g c =
    let p = err_from_is_err_and c.from_residual.result c.from_residual.ensures.1 in
    let old = c.args.disk.now in
    rw (p.1, p.2) (refused JournalParts (Journal c.args.consent) (key_of c.args.hash) (g.D.Disk.identity old) (g.D.Disk.moments old)
    (g.D.Disk.moments c.open_journal.new.disk) c.in_err-opened.field-0.0 c.in_err-opened.ensures.refused)

pub returns-clause-opened : goal.returns-clause-opened
returns-clause-opened g c =
    let old = c.args.disk.now in
    opened_journal (key_of c.args.hash) (g.D.Disk.identity old) (g.D.Disk.moments old) (g.D.Disk.moments c.open_journal.new.disk)
    c.in_ok-opened.opened (g.met.D.Disk.reads_an_image c.open_journal.new.disk) c.in_ok-opened.ensures.opened c.open_journal.ensures.writes

pub returns-clause-cause : goal.returns-clause-cause
returns-clause-cause g c =
    let cause = c.in_ok-opened.ensures.cause in
    record { later = cause.later; failed = λ e. absurd cc; passed = λ _. cause.passed (λ e. cc) }

pub returns-in_err-opened-clause-leaves : goal.returns-in_err-opened-clause-leaves
returns-in_err-opened-clause-leaves g c = record {
  identity = c.open_journal.ensures.identity;
  left = c.open_journal.ensures.left;
  refused = c.in_err-opened.ensures.refused.judged;
  writes = c.open_journal.ensures.writes;
}

pub returns-clause-leaves : goal.returns-clause-leaves
returns-clause-leaves g c = record {
  identity = c.open_journal.ensures.identity;
  left = c.open_journal.ensures.left;
  refused = c.in_ok-opened.ensures.refused.judged;
  writes = c.open_journal.ensures.writes;
}

pub returns-clause-accepted : goal.returns-clause-accepted
returns-clause-accepted g c start told = sym (c.in_ok-opened.ensures.refused.told (λ e. cc) (λ e. cc) start told)
