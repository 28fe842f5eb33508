-- What an opening tells of a disk that it refuses, by what judging told.
use Rattle.std.proofs.Common.{◌≡◌, ◌≢◌, ℕ, None, Option, Some, Result, Ok, Err, List, refl, ◌∙◌, ap}
use Rattle.std.proofs.lemmas.Option.{none-some}
use Rattle.disk_model.specs.Disk.{Content, Image, last_image}
use Rattle.disk_model.specs.Moments.{HasNow}
use Rattle.disk_model.proofs.MomentsLemmas.{EachMoment-kept}
use Rattle.image_refusal.specs.declared.call_fault.CallFault.{CallFault}
use Rattle.image_refusal.specs.declared.call_fault.CallFault.TheVariants as Faults
use Rattle.image_refusal.specs.declared.open_fault.HeadFault.{HeadFault}
use Rattle.image_refusal.specs.declared.open_fault.OpenFault.{OpenFault}
use Rattle.image_refusal.specs.declared.open_fault.OpenFault.TheVariants.{Head}
use Rattle.image_refusal.specs.Calls.{TellsCause, with_cause}
use Rattle.image_format.specs.Format.{format_of}
use Rattle.judging_model.specs.Faults.{ByHead, ImageFault, fault_in}
use Rattle.judging_model.proofs.FaultsLemmas.{fault_in-err}
use Rattle.device_opening.specs.Opening.{KeepsRefused, Refuses}

-- The fault of an answer, and this one where it tells none.
abbrev fault_or : {A E : Type 0} → E → Result A E → E
fault_or fault (Ok answer) = fault
fault_or fault (Err told) = told

pub same_told : {A E : Type 0} {x y : E} → ◌≡◌ {A = Result A E} (Err x) (Err y) → x ≡ y
same_told {A} {E} {x} e = ap (fault_or {A = A} {E = E} x) e

-- Answers of two types tell the same fault.
same_fault : {A B E : Type 0} {x y : E} → ◌≡◌ {A = Result A E} (Err x) (Err y) → ◌≡◌ {A = Result B E} (Err x) (Err y)
same_fault {A} {B} {E} e = ap (λ (z : E). let r : Result B E = Err z in r) (same_told {A = A} e)

module _ (fault_of : Image → Option ImageFault) (a b : List Content) where
  -- An image that has no fault is not refused.
  pub none_refused : HasNow (λ c. ◌≡◌ {A = Option ImageFault} None (fault_of (last_image c))) a → KeepsRefused fault_of a b
  none_refused none start told fault is = absurd (none-some fault (none start told ∙ is))

  -- What judging refuses is refused by the opening.
  pub judging_refuses : (T U : Type 0) (fault : CallFault OpenFault)
      → (◌≢◌ {A = Result T (CallFault OpenFault)} (Err fault) (Err Faults.Memory) → ◌≢◌ {A = Result T (CallFault OpenFault)} (Err fault) (Err Faults.Disk)
      → HasNow (λ c. fault_in {T = T} (Err fault) ≡ fault_of (last_image c)) a)
      → b ≡ a → Refuses {T = U} fault_of a b (Err fault)
  judging_refuses T U fault told kept = record {
    told = λ not_memory not_disk c now. fault_in-err U T fault ∙ told (λ e. not_memory (same_fault e)) (λ e. not_disk (same_fault e)) c now;
    untouched = λ not_disk err. kept;
    judged = λ start told fault is. EachMoment-kept _ kept;
  }

  -- What the first sector refuses is, too.
  pub head_refuses : (U : Type 0) (sectors : ℕ) (fault : CallFault HeadFault) → ((image : Image) (cause : HeadFault) → Err cause ≡ format_of sectors image → Some (ByHead cause) ≡ fault_of image)
      → TellsCause (format_of sectors) a fault → b ≡ a → Refuses {T = U} fault_of a b (Err (with_cause Head fault))
  head_refuses U sectors Faults.Memory by told kept = record {
    told = λ not_memory not_disk. absurd (not_memory refl);
    untouched = λ not_disk err. kept;
    judged = λ start told fault is. EachMoment-kept _ kept;
  }
  head_refuses U sectors Faults.Disk by told kept = record {
    told = λ not_memory not_disk. absurd (not_disk refl);
    untouched = λ not_disk err. kept;
    judged = λ start told fault is. EachMoment-kept _ kept;
  }
  head_refuses U sectors (Faults.Refused cause) by told kept = record {
    told = λ not_memory not_disk c now. by (last_image c) cause (told cause refl c now);
    untouched = λ not_disk err. kept;
    judged = λ start told fault is. EachMoment-kept _ kept;
  }

  -- Where there is no memory behind it nothing is done,
  pub memory_refuses : (U : Type 0) → b ≡ a → Refuses {T = U} fault_of a b (Err Faults.Memory)
  memory_refuses U kept = record {
    told = λ not_memory not_disk. absurd (not_memory refl);
    untouched = λ not_disk err. kept;
    judged = λ start told fault is. EachMoment-kept _ kept;
  }

  -- the disk fails on an image that has no fault alone,
  pub disk_refuses : (U : Type 0) → HasNow (λ c. ◌≡◌ {A = Option ImageFault} None (fault_of (last_image c))) a → Refuses {T = U} fault_of a b (Err Faults.Disk)
  disk_refuses U none = record {
    told = λ not_memory not_disk. absurd (not_disk refl);
    untouched = λ not_disk err. absurd (not_disk refl);
    judged = none_refused none;
  }

  -- and no other is opened.
  pub open_refuses : (U : Type 0) (answer : U) → HasNow (λ c. ◌≡◌ {A = Option ImageFault} None (fault_of (last_image c))) a → Refuses {T = U} fault_of a b (Ok answer)
  open_refuses U answer none = record {
    told = λ not_memory not_disk. none;
    untouched = λ not_disk err. absurd (cc);
    judged = none_refused none;
  }
