use Rattle.std.proofs.Common.{◌≡◌, ℕ, Option, List, None, Err, refl, sym, ◌∙◌, ap, subst}
use Rattle.std.proofs.lemmas.Result.{err_from_is_err_and}
use Rattle.hmac_tag.specs.TagMaker.{TagRule, key_of}
use Rattle.image_format.specs.Format.{IsReadNow, disk_format}
use Rattle.place_model.specs.Format.{OpensAs}
use Rattle.disk_model.specs.Disk.{last_image}
use Rattle.journal_reading.specs.Faults.{refusal_in}
use Rattle.journal_reading.specs.declared.reading.JudgedJournal.{JudgedJournal}
use Rattle.image_judging.proofs.JournalLemmas.{same_journal, told_journal}
use Rattle.device_opening.specs.declared.judging.JudgedImage.{JudgedImage}
use Rattle.device_opening.specs.Judged.{rule_of}
use Rattle.device_opening.proofs.JudgedLemmas.{fault_now, judged_opens}
use Rattle.device_opening.proofs.judging.judge_found.Goals as goal

pub returns-in_err-journal-clause-refused : goal.returns-in_err-journal-clause-refused
returns-in_err-journal-clause-refused g c =
    let p = err_from_is_err_and c.from_residual-in_err-journal.result c.from_residual-in_err-journal.ensures.1 in
    rw (p.1, p.2) (λ not_memory not_disk content told.
    told_journal JudgedJournal JudgedImage c.in_err-journal.field-0.0
    ∙ fault_now (key_of c.args.hash) c.args.consent (g.D.Disk.identity c.args.disk.now) c.args.format (g.D.Disk.moments c.args.disk.now) c.requires.found.told c.requires.found.format_.no_bitmap
    c.maker_of-maker.result c.maker_of-maker.ensures (c.in_ok-judge_consent.ensures.given.0 refl) (refusal_in {T = JudgedJournal} (Err c.in_err-journal.field-0.0))
    (λ x at. c.in_err-journal.ensures.refused (λ e. not_memory (same_journal e)) (λ e. not_disk (same_journal e)) x at) content told)

pub returns-clause-judged : goal.returns-clause-judged
returns-clause-judged g c =
    let key = key_of c.args.hash in
    let format = c.args.format in
    let sectors = (g.D.Disk.identity c.args.disk.now).sectors in
    let same : key ≡ c.maker_of-maker.result.key = sym (ap (λ (r : TagRule). r.key) c.maker_of-maker.ensures) in
    record {
      format = c.requires.found.format_;
      maker = c.maker_of-maker.ensures ∙ ap (λ (k : Option (List ℕ)). rule_of k format) same;
      fits = c.in_ok-journal.ensures.fits;
      now = λ content told.
          let judged = c.in_ok-journal.ensures.judged content told in
          let read = c.requires.found.reads key content told in
          record {
            read = subst (λ (k : Option (List ℕ)). IsReadNow k sectors format content) same read;
            opens =
                subst (λ (k : Option (List ℕ)). OpensAs (disk_format k sectors format) (last_image content)) same
                (judged_opens key sectors format c.maker_of-maker.result content c.maker_of-maker.ensures c.requires.found.format_.no_bitmap read judged.right);
            journal = judged.on;
          };
    }

pub returns-clause-refused : goal.returns-clause-refused
returns-clause-refused g c not_memory not_disk =
    fault_now (key_of c.args.hash) c.args.consent (g.D.Disk.identity c.args.disk.now) c.args.format (g.D.Disk.moments c.args.disk.now) c.requires.found.told c.requires.found.format_.no_bitmap
    c.maker_of-maker.result c.maker_of-maker.ensures (c.in_ok-judge_consent.ensures.given.0 refl) None
    (λ x at. sym (c.in_ok-journal.ensures.judged x at).right)
