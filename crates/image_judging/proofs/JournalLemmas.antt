-- What the fault of a journal that was read says, as that of an answer.
use Rattle.std.proofs.Common.{◌≡◌, refl, ap, Result, Ok, Err}
use Rattle.std.specs.Option.{option_map}
use Rattle.image_refusal.specs.declared.call_fault.CallFault.{CallFault}
use Rattle.image_refusal.specs.declared.call_fault.CallFault.TheVariants.{Memory, Disk, Refused}
use Rattle.image_refusal.specs.declared.journal_fault.JournalFault.{JournalFault}
use Rattle.image_refusal.specs.declared.open_fault.OpenFault.{OpenFault}
use Rattle.image_refusal.specs.declared.open_fault.OpenFault.TheVariants.{Journal}
use Rattle.image_refusal.specs.Calls.{with_cause}
use Rattle.journal_reading.specs.Faults.{refusal_in}
use Rattle.judging_model.specs.Faults.{ByJournal, fault_in}

abbrev journal_fault_told : {A B : Type 0} → Result A (CallFault JournalFault) → Result B (CallFault OpenFault)
journal_fault_told (Ok answer) = Err Memory
journal_fault_told (Err fault) = Err (with_cause Journal fault)

-- Faults that are the same are told as the same.
pub same_journal : {A B : Type 0} {x y : CallFault JournalFault} → ◌≡◌ {A = Result A (CallFault JournalFault)} (Err x) (Err y)
    → ◌≡◌ {A = Result B (CallFault OpenFault)} (Err (with_cause Journal x)) (Err (with_cause Journal y))
same_journal {A} {B} {x} {y} e = ap (journal_fault_told {A = A} {B = B}) e

-- The fault of a journal is told.
pub told_journal : (A B : Type 0) (fault : CallFault JournalFault) → fault_in {T = B} (Err (with_cause Journal fault)) ≡ option_map ByJournal (refusal_in {T = A} (Err fault))
told_journal A B Memory = refl
told_journal A B Disk = refl
told_journal A B (Refused fault) = refl
