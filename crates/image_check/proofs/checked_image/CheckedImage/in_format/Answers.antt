use Rattle.std.proofs.Common.{◌≡◌, ap, ◌∙◌, ℕ, Err, List, Option}
use Rattle.std.specs.Option.{option_map}
use Rattle.std.proofs.lemmas.Result.{err_from_is_err_and}
use Rattle.disk_model.specs.Disk.{last_image}
use Rattle.hmac_tag.specs.TagMaker.{TagRule, key_of}
use Rattle.image_refusal.specs.declared.call_fault.CallFault.{CallFault}
use Rattle.image_refusal.specs.declared.call_fault.CallFault.TheVariants.{Memory, Disk}
use Rattle.image_refusal.specs.declared.open_fault.OpenFault.{OpenFault}
use Rattle.judging_model.specs.Faults.{ByJournal, fault_in}
use Rattle.judging_model.proofs.FaultsLemmas.{fault_in-err}
use Rattle.check_model.specs.Faults.{journal_fault_for}
use Rattle.image_check.specs.Checked.{Checked}
use Rattle.image_check.proofs.CheckedLemmas.{opened_check}
use Rattle.image_check.proofs.checked_image.CheckedImage.in_format.Goals as goal

pub returns-in_err-journal-clause-refused : goal.returns-in_err-journal-clause-refused
returns-in_err-journal-clause-refused g c some well x told =
    let fault = c.in_err-journal.field-0.0 in
    let p = err_from_is_err_and c.from_residual.result c.from_residual.ensures.1 in
    let e : c.from_residual.result ≡ Err fault = p.1 ∙ ap (λ (f : CallFault OpenFault). Err f) p.2 in
    ap (λ r. fault_in r) e
    ∙ fault_in-err Checked (Option (List (ℕ × ℕ))) fault
    ∙ c.in_err-journal.ensures.refused (λ h. some (e ∙ ap (λ (f : CallFault OpenFault). Err f) (let same : fault ≡ Memory = cc in same))) (λ h. well (e ∙ ap (λ (f : CallFault OpenFault). Err f) (let same : fault ≡ Disk = cc in same))) x told
    ∙ ap (λ (m : TagRule). option_map ByJournal (journal_fault_for c.args.what m.key c.args.format (last_image x))) c.tag_maker-maker.ensures

pub returns-clause-image : goal.returns-clause-image
returns-clause-image g c =
    opened_check _ (key_of c.args.hash) (g.D.Disk.identity c.args.disk.now) (g.D.Disk.identity c.read_journal.new.disk) (g.D.Disk.moments c.args.disk.now) (g.D.Disk.moments c.read_journal.new.disk)
    c.read_journal.ensures.identity c.read_journal.ensures.kept c.requires.bound c.requires.format c.requires.reads c.tag_maker-maker.ensures c.in_ok-journal.ensures.journal c.in_ok-tags.ensures c.in_ok-blocks.ensures c.in_ok-bits.ensures

pub returns-clause-refused : goal.returns-clause-refused
returns-clause-refused g c some well x told =
    c.in_ok-journal.ensures.refused (λ h. cc) (λ h. cc) x told
    ∙ ap (λ (m : TagRule). option_map ByJournal (journal_fault_for c.args.what m.key c.args.format (last_image x))) c.tag_maker-maker.ensures
