use Rattle.std.proofs.Common.{◌≡◌, sym, ap, ◌∙◌, ℕ, Err, List, Option}
use Rattle.std.specs.Option.{option_map}
use Rattle.std.proofs.lemmas.Result.{err_from_is_err_and}
use Rattle.disk_model.specs.Disk.{last_image}
use Rattle.image_refusal.specs.declared.call_fault.CallFault.{CallFault}
use Rattle.image_refusal.specs.declared.call_fault.CallFault.TheVariants.{Memory, Disk}
use Rattle.image_refusal.specs.declared.open_fault.OpenFault.{OpenFault}
use Rattle.judging_model.specs.Faults.{ByJournal, fault_in}
use Rattle.judging_model.proofs.FaultsLemmas.{fault_in-err}
use Rattle.image_check.proofs.ReadingLemmas.{no_fault, own_fault}
use Rattle.image_check.proofs.opening.read_own_journal.Goals as goal

pub returns-then-has_bitmap-clause-journal : goal.returns-then-has_bitmap-clause-journal
returns-then-has_bitmap-clause-journal g c x told = sym c.has_bitmap.ensures ∙ c.if-has_bitmap.true

pub returns-then-has_bitmap-clause-refused : goal.returns-then-has_bitmap-clause-refused
returns-then-has_bitmap-clause-refused g c some well x told =
    sym (ap (option_map ByJournal) (no_fault c.args.maker.now.key c.args.format.now (last_image x) (sym c.has_bitmap.ensures ∙ c.if-has_bitmap.true)))

pub returns-in_err-newest-clause-refused : goal.returns-in_err-newest-clause-refused
returns-in_err-newest-clause-refused g c some well x told =
    let fault = c.in_err-newest.field-0.0 in
    let p = err_from_is_err_and c.from_residual.result c.from_residual.ensures.1 in
    let e : c.from_residual.result ≡ Err fault = p.1 ∙ ap (λ (f : CallFault OpenFault). Err f) p.2 in
    ap (λ r. fault_in r) e
    ∙ fault_in-err (Option (List (ℕ × ℕ))) (List (ℕ × ℕ)) fault
    ∙ c.in_err-newest.ensures.refused (λ h. some (e ∙ ap (λ (f : CallFault OpenFault). Err f) (let same : fault ≡ Memory = cc in same))) (λ h. well (e ∙ ap (λ (f : CallFault OpenFault). Err f) (let same : fault ≡ Disk = cc in same))) x told
    ∙ sym (ap (option_map ByJournal) (own_fault c.args.maker.now.key c.args.maker.now.salt c.args.format.now (last_image x) c.requires.salt (sym c.has_bitmap.ensures ∙ c.if-has_bitmap.false)))

pub returns-clause-journal : goal.returns-clause-journal
returns-clause-journal g c x told = record {
  no_bitmap = sym c.has_bitmap.ensures ∙ c.if-has_bitmap.false;
  index = c.in_ok-newest.ensures.index x told;
}

pub returns-clause-refused : goal.returns-clause-refused
returns-clause-refused g c some well x told =
    c.in_ok-newest.ensures.refused (λ h. cc) (λ h. cc) x told
    ∙ sym (ap (option_map ByJournal) (own_fault c.args.maker.now.key c.args.maker.now.salt c.args.format.now (last_image x) c.requires.salt (sym c.has_bitmap.ensures ∙ c.if-has_bitmap.false)))
